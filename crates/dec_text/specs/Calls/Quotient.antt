-- What is known of a quotient: its whole part, and how it goes on behind the point.
use Rattle.std.specs.Prelude.{◌≡◌, ℕ, ◌+◌, ◌-◌, ◌*◌, ◌/◌, ◌%◌, ◌^◌, min, nat_le, nat_lt, Bool, if◌then◌else◌, List, ◌++◌, length}
use Rattle.std.specs.Str.Parse.{digits_value}
use Rattle.dec_text.specs.declared.quotient.Quotient.{Quotient}

-- q is n / d: its whole part, or the greatest `u64`; whether what is left is a half or more, and whether anything is left
pub record IsQuotient (n d : ℕ) (q : Quotient) : Type 0 where
  pub whole : q.whole ≡ min (n / d) (2 ^ 64 - 1)
  pub is_half : q.is_half ≡ nat_le d (2 * (n % d))
  pub has_rest : q.has_rest ≡ nat_lt 0 (n % d)

-- q is the digits of both pieces, times 10 to `digits` and to the exponent e, where the second piece stands behind the point
abbrev pub IsScaled : List ℕ → List ℕ → ℕ → Bool → ℕ → Quotient → Type 0
IsScaled before behind digits negative e q =
    IsQuotient (digits_value 10 (before ++ behind) * 10 ^ (digits + (if negative then 0 else e)))
    (10 ^ (length behind + (if negative then e else 0)))
    q
