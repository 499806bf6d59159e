-- The search turn by turn is that for a list of turns, and finds one direction at most.
use Rattle.std.proofs.Common.{◌≡◌, ◌∙◌, ℕ, zero, suc, ◌<◌, pos, ◌<ℤ◌, List, [], ◌∷◌, ◌++◌, length, inl, inr, refl, sym, ap, subst, arith}
use Rattle.std.specs.Prelude.{All}
use Rattle.std.proofs.lemmas.List.Elements.{All-cons, All-head, All-nil, All-tail}
use Rattle.list_laws.specs.Chains.{Follow}
use Rattle.space3.specs.declared.vectors.V3.{V3}
use Rattle.sparse_cg.specs.Directions.{IsEndOf, direction_of}
use Rattle.sparse_cg.specs.Systems.{System}
use Rattle.sparse_cg.specs.Turns.{IsClose, IsTurn, Numbers, curvature, start, turned}
use Rattle.sparse_cg.specs.Calls.Ends.{Ends}

module _ (system : System) (direction : List V3) where
  -- ---- one turn of the search
  pub none_left : (n : Numbers) → ¬ Ends system zero n direction
  unfolding Ends
  none_left n h = h

  pub ends_here : (turns : ℕ) (n : Numbers) → pos 0 <ℤ curvature system n → pos 0 <ℤ n.rho → IsClose system (turned system n) → direction ≡ direction_of system.nodes (turned system n).x → Ends system (suc turns) n direction
  unfolding Ends
  ends_here turns n bends remains close is = (bends, remains, inl (close, is))

  pub ends_later : (turns : ℕ) (n : Numbers) → pos 0 <ℤ curvature system n → pos 0 <ℤ n.rho → ¬ IsClose system (turned system n) → Ends system turns (turned system n) direction → Ends system (suc turns) n direction
  unfolding Ends
  ends_later turns n bends remains far more = (bends, remains, inr (far, more))

  pub bends_where : (turns : ℕ) (n : Numbers) → Ends system (suc turns) n direction → pos 0 <ℤ curvature system n
  unfolding Ends
  bends_where turns n h = h.0

  pub remains_where : (turns : ℕ) (n : Numbers) → Ends system (suc turns) n direction → pos 0 <ℤ n.rho
  unfolding Ends
  remains_where turns n h = h.1

  pub is_where : (turns : ℕ) (n : Numbers) → IsClose system (turned system n) → Ends system (suc turns) n direction → direction ≡ direction_of system.nodes (turned system n).x
  unfolding Ends
  is_where turns n close h = elim h.2 [ inl at_end ↦ at_end.1 | inr further ↦ absurd (further.0 close) ]

  pub further_where : (turns : ℕ) (n : Numbers) → ¬ IsClose system (turned system n) → Ends system (suc turns) n direction → Ends system turns (turned system n) direction
  unfolding Ends
  further_where turns n far h = elim h.2 [ inl at_end ↦ absurd (far at_end.0) | inr further ↦ further.1 ]

  -- ---- turns as a list
  pub along : (turns : ℕ) (n : Numbers) (before : List Numbers) (last : Numbers) → length before < turns → Follow (λ _ turn. turn) (IsTurn system) n (before ++ last ∷ []) → All (λ turn. ¬ IsClose system turn) before
      → IsClose system last → direction ≡ direction_of system.nodes last.x → Ends system turns n direction
  along zero n before last few follow far close is = absurd (omega arith)
  along (suc turns) n [] last few follow far close is =
      let turn = follow.0 in
      ends_here turns n turn.bends turn.remains (subst (IsClose system) turn.is close) (is ∙ ap (λ (m : Numbers). direction_of system.nodes m.x) turn.is)
  along (suc turns) n (next ∷ before) last few follow far close is =
      let turn = follow.0 in
      ends_later turns n turn.bends turn.remains (subst (λ (m : Numbers). ¬ IsClose system m) turn.is (All-head (λ t. ¬ IsClose system t) next before far))
      (subst (λ (m : Numbers). Ends system turns m direction) turn.is (along turns next before last (omega arith) follow.1 (All-tail (λ t. ¬ IsClose system t) next before far) close is))

  -- what such a list is from some numbers on
  pub record IsEndFrom (count : ℕ) (n : Numbers) : Type 0 where
    pub before : List Numbers
    pub last : Numbers
    pub few : length before < count
    pub turns : Follow (λ _ turn. turn) (IsTurn system) n (before ++ last ∷ [])
    pub far : All (λ turn. ¬ IsClose system turn) before
    pub close : IsClose system last
    pub is : direction ≡ direction_of system.nodes last.x

  pub ended : (count : ℕ) (n : Numbers) → Ends system count n direction → IsEndFrom count n
  unfolding Ends
  ended zero n h = absurd h
  ended (suc count) n h = elim h.2 [
    | inl at_end ↦ record {
      before = [];
      last = turned system n;
      few = omega arith;
      turns = (record { bends = h.0; remains = h.1; is = refl }, tt);
      far = All-nil (λ t. ¬ IsClose system t);
      close = at_end.0;
      is = at_end.1;
    }
    | inr further ↦ let rest = ended count (turned system n) further.1 in record {
      before = turned system n ∷ rest.before;
      last = rest.last;
      few = omega (arith, rest.few);
      turns = (record { bends = h.0; remains = h.1; is = refl }, rest.turns);
      far = All-cons (λ t. ¬ IsClose system t) (turned system n) rest.before further.0 rest.far;
      close = rest.close;
      is = rest.is;
    }
  ]

  -- ---- the search of 200 turns
  pub end_from_search : Ends system 200 (start system) direction → IsEndOf system direction
  end_from_search h =
      let found = ended 200 (start system) h in
      record { before = found.before; last = found.last; few = found.few; turns = found.turns; far = found.far; close = found.close; is = found.is }

  pub search_from_end : IsEndOf system direction → Ends system 200 (start system) direction
  search_from_end h = along 200 (start system) h.before h.last h.few h.turns h.far h.close h.is

-- there is one direction at most
pub one_end : (system : System) (count : ℕ) (n : Numbers) (d e : List V3) → Ends system count n d → Ends system count n e → d ≡ e
unfolding Ends
one_end system zero n d e h k = absurd h
one_end system (suc count) n d e h k = elim h.2 [
  | inl at_end ↦ at_end.1 ∙ sym (is_where system e count n at_end.0 k)
  | inr further ↦ one_end system count (turned system n) d e further.1 (further_where system e count n further.0 k)
]
