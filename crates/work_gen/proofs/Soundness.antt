-- The stack's mesh is sound.
use Rattle.std.proofs.Common.{◌≡◌, ◌≢◌, ◌∙◌, ℕ, zero, suc, ◌+◌, ◌*◌, ◌<◌, ◌≤◌, pos, Bool, true, false, List, [], ◌∷◌, length, refl, sym, subst, arith, length-append, unsigned_abs}
use Rattle.std.specs.Prelude.{◌==◌, All, if◌then◌else◌}
use Rattle.std.specs.List.{IsDistinct, flat_map, range_with_len}
use Rattle.std.proofs.lemmas.Bool.Decides.{nat_tests}
use Rattle.std.proofs.lemmas.List.Elements.{All-nil, All-cons, All-map}
use Rattle.std.proofs.lemmas.List.FromFn.{get_or-range_with_len, length-range_with_len}
use Rattle.std.proofs.lemmas.Map.Keys.{IsDistinct-from_apart}
use Rattle.list_laws.proofs.CountedWrites.{All-counted}
use Rattle.list_laws.proofs.Membership.{All-flat_map}
use Rattle.space3.specs.Mesh.{IsNumber, IsSound, IsSoundTet}
use Rattle.work_gen.specs.Stack.{block_places, block_tet, block_tets, stack_mesh}

-- lists of one length, joined
length-blocks : {A : Type 0} (f : ℕ → List A) (each : ℕ) (xs : List ℕ) → ((x : ℕ) → length (f x) ≡ each) → length (flat_map f xs) ≡ each * length xs
length-blocks f each [] h = omega arith
length-blocks f each (x ∷ xs) h = let rest = length-blocks f each xs h in omega (arith, length-append (f x) (flat_map f xs), h x, rest, grown each (length xs))
  where
    grown : (a n : ℕ) → a * suc n ≡ a + a * n
    grown a n = omega arith

pub length-places : (blocks : ℕ) → length (flat_map block_places (range_with_len 0 blocks)) ≡ 8 * blocks
length-places blocks = omega (arith, length-blocks block_places 8 (range_with_len 0 blocks) (λ block. refl), length-range_with_len 0 blocks)

length-tets : (blocks : ℕ) → length (flat_map block_tets (range_with_len 0 blocks)) ≡ 6 * blocks
length-tets blocks = omega (arith, length-blocks block_tets 6 (range_with_len 0 blocks) (λ block. refl), length-range_with_len 0 blocks)

is_other : (a b : ℕ) → a ≢ b → (a == b) ≡ false
is_other a b h = grind (arith, nat_tests)

numbers_differ : (first count : ℕ) → IsDistinct (λ m n. m == n) (range_with_len first count)
numbers_differ first count =
    IsDistinct-from_apart (λ m n. m == n) (range_with_len first count) (λ i j d before there.
    let inside : j < count = omega (arith, there, length-range_with_len first count) in
    (λ k. get_or-range_with_len first count i d (omega (arith, before, inside)) k == get_or-range_with_len first count j d inside k)
    ∙ is_other (first + i) (first + j) (λ e. omega arith))

four_differ : (w x y z : ℕ) → w ≢ x → w ≢ y → w ≢ z → x ≢ y → x ≢ z → y ≢ z → IsDistinct (λ i j. i == j) (w ∷ x ∷ y ∷ z ∷ [])
unfolding IsDistinct
four_differ w x y z wx wy wz xy xz yz =
    ((is_other w x wx, (is_other w y wy, (is_other w z wz, tt))), ((is_other x y xy, (is_other x z xz, tt)), ((is_other y z yz, tt), (tt, tt))))

-- a tetrahedron at four different corners of a block
module _ (blocks block tet : ℕ) (few : blocks ≤ 512) (there : block < blocks) (tet_there : tet < 6) where
  sound_at : (a b c d : ℕ) → a ≢ b → a ≢ c → a ≢ d → b ≢ c → b ≢ d → c ≢ d → a < 8 → b < 8 → c < 8 → d < 8
      → (block_tet block tet).nodes ≡ (8 * block + a) ∷ (8 * block + b) ∷ (8 * block + c) ∷ (8 * block + d) ∷ [] → IsSoundTet (8 * blocks) (block_tet block tet)
  sound_at a b c d ab ac ad bc bd cd la lb lc ld is = record {
    number = record { low = omega arith; high = omega (arith, few, there, tet_there) };
    four = (λ i. length (is i));
    different = subst (IsDistinct (λ i j. i == j)) (sym is) (four_differ (8 * block + a) (8 * block + b) (8 * block + c) (8 * block + d) (apart a b ab) (apart a c ac) (apart a d ad) (apart b c bc) (apart b d bd) (apart c d cd));
    there = subst (All (λ node. node < 8 * blocks)) (sym is)
        (All-cons below (8 * block + a) ((8 * block + b) ∷ (8 * block + c) ∷ (8 * block + d) ∷ []) (inside a la) (All-cons below (8 * block + b) ((8 * block + c) ∷ (8 * block + d) ∷ []) (inside b lb) (All-cons below (8 * block + c) ((8 * block + d) ∷ []) (inside c lc) (All-cons below (8 * block + d) [] (inside d ld) (All-nil below)))));
    few_tags = omega arith;
    tags = All-cons (λ tag. unsigned_abs tag ≤ 2147483647) (if block == 0 then pos 1 else pos 2) (pos (block + 1) ∷ []) (first_tag (block == 0)) (All-cons (λ tag. unsigned_abs tag ≤ 2147483647) (pos (block + 1)) [] (omega (arith, few, there)) (All-nil (λ tag. unsigned_abs tag ≤ 2147483647)));
  }
    where
      below : ℕ → Type 0
      below node = node < 8 * blocks

      apart : (i j : ℕ) → i ≢ j → 8 * block + i ≢ 8 * block + j
      apart i j h e = h (omega arith)

      inside : (i : ℕ) → i < 8 → 8 * block + i < 8 * blocks
      inside i l = omega (arith, there)

      first_tag : (b : Bool) → unsigned_abs (if b then pos 1 else pos 2) ≤ 2147483647
      first_tag true = omega arith
      first_tag false = omega arith

tet_is_sound : (blocks block tet : ℕ) → blocks ≤ 512 → block < blocks → tet < 6 → IsSoundTet (8 * blocks) (block_tet block tet)
tet_is_sound blocks block zero few there l = sound_at blocks block 0 few there l 0 1 3 7 (omega arith) (omega arith) (omega arith) (omega arith) (omega arith) (omega arith) (omega arith) (omega arith) (omega arith) (omega arith) refl
tet_is_sound blocks block (suc zero) few there l = sound_at blocks block 1 few there l 0 5 1 7 (omega arith) (omega arith) (omega arith) (omega arith) (omega arith) (omega arith) (omega arith) (omega arith) (omega arith) (omega arith) refl
tet_is_sound blocks block (suc (suc zero)) few there l = sound_at blocks block 2 few there l 0 3 2 7 (omega arith) (omega arith) (omega arith) (omega arith) (omega arith) (omega arith) (omega arith) (omega arith) (omega arith) (omega arith) refl
tet_is_sound blocks block (suc (suc (suc zero))) few there l = sound_at blocks block 3 few there l 0 2 6 7 (omega arith) (omega arith) (omega arith) (omega arith) (omega arith) (omega arith) (omega arith) (omega arith) (omega arith) (omega arith) refl
tet_is_sound blocks block (suc (suc (suc (suc zero)))) few there l = sound_at blocks block 4 few there l 0 4 5 7 (omega arith) (omega arith) (omega arith) (omega arith) (omega arith) (omega arith) (omega arith) (omega arith) (omega arith) (omega arith) refl
tet_is_sound blocks block (suc (suc (suc (suc (suc zero))))) few there l = sound_at blocks block 5 few there l 0 6 4 7 (omega arith) (omega arith) (omega arith) (omega arith) (omega arith) (omega arith) (omega arith) (omega arith) (omega arith) (omega arith) refl
tet_is_sound blocks block (suc (suc (suc (suc (suc (suc tet)))))) few there l = absurd (omega arith)

pub stack_is_sound : (blocks : ℕ) → 1 ≤ blocks → blocks ≤ 512 → IsSound (stack_mesh blocks)
stack_is_sound blocks some few =
    let nodes = length-range_with_len 1 (8 * blocks) in record {
      placed = nodes ∙ sym (length-places blocks);
      some_nodes = omega (arith, nodes, some);
      few_nodes = omega (arith, nodes, few);
      numbered = λ k d l. subst IsNumber (sym (get_or-range_with_len 1 (8 * blocks) k d (omega (arith, nodes, l)))) (record { low = omega arith; high = omega (arith, nodes, l, few) });
      different = numbers_differ 1 (8 * blocks);
      some_tets = omega (arith, length-tets blocks, some);
      few_tets = omega (arith, length-tets blocks, few);
      tets = subst (λ (count : ℕ). All (IsSoundTet count) (flat_map block_tets (range_with_len 0 blocks))) (sym nodes) (All-flat_map (IsSoundTet (8 * blocks)) block_tets (range_with_len 0 blocks)
          (All-counted (λ block. All (IsSoundTet (8 * blocks)) (block_tets block)) blocks (λ block there.
          All-map (IsSoundTet (8 * blocks)) (block_tet block) (range_with_len 0 6) (All-counted (λ tet. IsSoundTet (8 * blocks) (block_tet block tet)) 6 (λ tet l. tet_is_sound blocks block tet few there l)))));
    }
