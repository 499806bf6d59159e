use Rattle.std.proofs.Common.{◌≡◌, ◌∙◌, ℕ, ◌+◌, Bool, true, false, cond, List, [], ◌∷◌, ◌++◌, length, map, ap, sym, arith, rules, map-id}
use Rattle.std.specs.List.{filter, range_with_len}
use Rattle.std.specs.Prelude.{slice_index_or}
use Rattle.std.proofs.lemmas.List.{append-nil, get_or_default, map-append}
use Rattle.std.proofs.lemmas.List.FromFn.{filter_of_map_range_with_len_more}
use Rattle.space3.specs.declared.lists.Tet.{Tet}
use Rattle.potential_sum.specs.Calls.Turns.{is_held_as}
use Rattle.potential_sum.specs.declared.turns.Turn.{Turn}
use Rattle.potential_sum.proofs.turns.turns_in_order.Goals as goal
use Rattle.potential_sum.proofs.turns.turns_in_order.Goals.{then-is_held_as+in_ok-push, else-is_held_as}

-- a turn more where the next position passes
one_more : (test : ℕ → Bool) (k : ℕ) (b : Bool) (before after : List ℕ) → before ≡ filter test (range_with_len 0 k) → test k ≡ b → after ≡ before ++ cond b (k ∷ []) [] → after ≡ filter test (range_with_len 0 (k + 1))
one_more test k b before after h e f =
    f ∙ (λ i. h i ++ cond (sym e i) (k ∷ []) [])
    ∙ (λ i. filter test (sym (map-id (range_with_len 0 k)) i) ++ cond (test k) (k ∷ []) [])
    ∙ sym (filter_of_map_range_with_len_more test (λ j. j) 0 k k (omega arith)) ∙ ap (filter test) (map-id (range_with_len 0 (k + 1)))

pub loop-position-preserved : goal.loop-position-preserved
loop-position-preserved c d =
    let k = c.loop-position.position in
    let test : ℕ → Bool = λ i. is_held_as c.args.held c.args.fixed.now (slice_index_or c.args.tets.now i d).nodes in
    let tet : Tet = c.index-tets-position.result in
    let at : test k ≡ c.is_held_as.result =
    ap (λ (t : Tet). is_held_as c.args.held c.args.fixed.now t.nodes) (get_or_default c.args.tets.now k d tet c.loop-position-test.true) ∙ sym c.is_held_as.ensures in
    elim c.if-is_held_as.branch [
      | then-is_held_as+in_ok-push w ↦
          let turn : Turn = record { along = w.along_curve.result; tet = k } in
          let pushed : c.if-is_held_as.turns.items ≡ c.loop-position.turns.items ++ turn ∷ [] = search rules in
          one_more test k true (map (λ (t : Turn). t.tet) c.loop-position.turns.items) _ (c.loop-position.invariant d) (at ∙ w.if-is_held_as.true)
          (ap (map (λ (t : Turn). t.tet)) pushed ∙ map-append (λ (t : Turn). t.tet) c.loop-position.turns.items (turn ∷ []))
      | else-is_held_as w ↦
          let same : c.if-is_held_as.turns.items ≡ c.loop-position.turns.items = search rules in
          one_more test k false (map (λ (t : Turn). t.tet) c.loop-position.turns.items) _ (c.loop-position.invariant d) (at ∙ w.if-is_held_as.false)
          (ap (map (λ (t : Turn). t.tet)) same ∙ sym (append-nil (map (λ (t : Turn). t.tet) c.loop-position.turns.items)))
    ]

pub returns : goal.returns
returns c d =
    let end : c.loop-position.position ≡ length c.args.tets.now = omega (arith, c.loop-position.auto.position-end, c.loop-position-test.false) in
    c.loop-position.invariant d ∙ ap (λ n. filter (λ k. is_held_as c.args.held c.args.fixed.now (slice_index_or c.args.tets.now k d).nodes) (range_with_len 0 n)) end
