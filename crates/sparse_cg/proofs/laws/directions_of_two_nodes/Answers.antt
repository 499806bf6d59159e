use Rattle.std.proofs.Common.{◌≤◌, ◌<◌, ◌^◌, ℤ, [], ◌∷◌, refl, arith, unsigned_abs}
use Rattle.std.proofs.lemmas.List.Elements.{All-cons, All-from_recursion, All-nil}
use Rattle.num_q.specs.Rounding.{cut_of}
use Rattle.sparse_cg.specs.Example.{slopes_of_two, system_of_two}
use Rattle.sparse_cg.specs.Turns.{IsClose, Numbers, start, turned}
use Rattle.sparse_cg.proofs.laws.directions_of_two_nodes.Goals as goal

abbrev one : Numbers
one = turned system_of_two (start system_of_two)

far : ¬ IsClose system_of_two one
far h = let quarter : 2247944 ≤ 1362345 = h.quarter in omega arith

pub returns-clause-newton : goal.returns-clause-newton
returns-clause-newton c = record {
  shift = 0;
  is_shift = record {
    fits = All-from_recursion (λ (slope : ℤ). unsigned_abs (cut_of 100 slope) < 2 ^ 40) slopes_of_two (search arith);
    least = λ lesser less. absurd (omega arith);
  };
  is_end = record {
    before = one ∷ [];
    last = turned system_of_two one;
    few = omega arith;
    turns = (record { bends = record { lt = tt }; remains = record { lt = tt }; is = refl }, (record { bends = record { lt = tt }; remains = record { lt = tt }; is = refl }, tt));
    far = All-cons (λ turn. ¬ IsClose system_of_two turn) one [] far (All-nil (λ turn. ¬ IsClose system_of_two turn));
    close = record { quarter = omega arith };
    is = refl;
  };
}
