-- The contacts of a frame: between which parts they are, how many, and that their parts may slide.
use Rattle.std.proofs.Common.{◌≡◌, ◌∙◌, ◌+◌, ◌<◌, ◌≤◌, Bool, true, false, cond, List, [], ◌∷◌, ◌++◌, length, map, take, get_or, refl, ap, sym, subst, arith, length-append, inl, inr}
use Rattle.std.specs.Prelude.{All, if◌then◌else◌}
use Rattle.std.specs.List.{filter}
use Rattle.std.proofs.lemmas.List.{length-map, map-append, map_more}
use Rattle.std.proofs.lemmas.List.Elements.{All-filter, All-map, filter-append}
use Rattle.list_laws.proofs.Elements.{All-map_back}
use Rattle.space3.specs.declared.vectors.V3.{V3}
use Rattle.safe_motion.specs.Safety.{PartPair}
use Rattle.boundary.specs.declared.pairs.Pair.{Pair}
use Rattle.boundary.specs.Pairs.{part_pair}
use Rattle.boundary.proofs.PairNodes.{few_pass}
use Rattle.friction_lag.specs.declared.contacts.Contact.{Contact}
use Rattle.friction_lag.specs.Contacts.{LaggedContact}
use Rattle.friction_lag.specs.Lagged.{lagged_in}
use Rattle.space3.specs.Mesh.{HasNodes}
use Rattle.surface_mesh.specs.declared.setup.Setup.{Setup}
use Rattle.surface_mesh.specs.Setup.{IsSetup}
use Rattle.potential_sum.specs.declared.contacts.TheConstants.{MOST_CLOSE}
use Rattle.potential_sum.specs.Calls.Barriers.{AreDifferent, AreFour}
use Rattle.potential_sum.specs.Calls.Friction.{MaySlide}
use Rattle.potential_sum.specs.Contacts.{IsBetweenParts, close_parts, contact_at, contacts_of, is_active, nodes_of_parts}
use Rattle.potential_sum.specs.Upright.{IsUpright}
use Rattle.potential_sum.proofs.CloseParts.{are_close_pairs, few_close_parts, pair_is_different, pair_is_there}

-- ---- the contacts where a frame begins
four_in_all : (parts : PartPair) → AreFour parts → length (nodes_of_parts parts) ≡ 4
four_in_all parts (inl h) = omega (arith, length-append parts.left parts.right, h.0, h.1)
four_in_all parts (inr h) = omega (arith, length-append parts.left parts.right, h.0, h.1)

-- they are between parts of the surface
pub contacts_are_between : (s : Setup) (x : List V3) → IsSetup s → IsUpright s x → All (IsBetweenParts s) (contacts_of s x)
contacts_are_between s x h pose =
    let active = is_active s.numbers x in
    let P : PartPair → Type 0 = λ parts. IsBetweenParts s (contact_at s.numbers x parts) in
    All-map (IsBetweenParts s) (contact_at s.numbers x) (filter active (close_parts s x))
    (All-filter active P (close_parts s x)
    (All-map P (part_pair s.surface) _ (λ k d l.
    let close = are_close_pairs s x h pose k d l in
    record {
      pair = _;
      is_pair = close.there;
      nodes = refl;
      four = four_in_all _ close.close.four;
    })))

-- no more than close parts
pub few_contacts : (s : Setup) (x : List V3) → IsSetup s → length (contacts_of s x) ≤ MOST_CLOSE
few_contacts s x h =
    let active = is_active s.numbers x in
    omega (arith, length-map (filter active (close_parts s x)) (contact_at s.numbers x), few_pass active (close_parts s x), few_close_parts s x h)

-- ---- contacts at later places
pub may_slide : (s : Setup) (x : List V3) (contacts : List LaggedContact) → IsSetup s → IsUpright s x → All (IsBetweenParts s) contacts → All (MaySlide x) contacts
may_slide s x contacts h pose between = λ k d l.
    let contact = between k d l in
    record {
      four = contact.four;
      there = subst (HasNodes x) (sym contact.nodes) (pair_is_there s x contact.pair h pose contact.is_pair);
      different = subst AreDifferent (sym contact.nodes) (pair_is_different s contact.pair h contact.is_pair);
    }

-- as they are held
pub held_may_slide : (s : Setup) (x : List V3) (held : List Contact) (contacts : List LaggedContact) → IsSetup s → IsUpright s x → All (IsBetweenParts s) contacts → map lagged_in held ≡ contacts → All (λ contact. MaySlide x (lagged_in contact)) held
held_may_slide s x held contacts h pose between e = All-map_back (MaySlide x) lagged_in held (subst (All (MaySlide x)) (sym e) (may_slide s x contacts h pose between))

pub few_held : (held : List Contact) (contacts : List LaggedContact) → length contacts ≤ MOST_CLOSE → map lagged_in held ≡ contacts → length held ≤ MOST_CLOSE
few_held held contacts few e = omega (arith, few, length-map held lagged_in, ap length e)

-- ---- the contacts of the first pairs, and of one pair more
abbrev pub contacts_of_pairs : Setup → List V3 → List Pair → List LaggedContact
contacts_of_pairs s x pairs = map (contact_at s.numbers x) (filter (is_active s.numbers x) (map (part_pair s.surface) pairs))

pub one_pair_more : (s : Setup) (x : List V3) (pairs : List Pair) (i : _) (d : Pair) → i < length pairs →
    contacts_of_pairs s x (take (i + 1) pairs) ≡ contacts_of_pairs s x (take i pairs)
    ++ (if is_active s.numbers x (part_pair s.surface (get_or pairs i d)) then contact_at s.numbers x (part_pair s.surface (get_or pairs i d)) ∷ [] else [])
one_pair_more s x pairs i d l =
    let active = is_active s.numbers x in
    let parts = part_pair s.surface (get_or pairs i d) in
    let before = map (part_pair s.surface) (take i pairs) in
    ap (λ (list : List PartPair). map (contact_at s.numbers x) (filter active list)) (map_more (part_pair s.surface) pairs i d l)
    ∙ ap (map (contact_at s.numbers x)) (filter-append active before (parts ∷ []))
    ∙ map-append (contact_at s.numbers x) (filter active before) (filter active (parts ∷ []))
    ∙ ap (λ list. map (contact_at s.numbers x) (filter active before) ++ list) (one (active parts))
  where
    one : (b : Bool) → map (contact_at s.numbers x) (cond b (part_pair s.surface (get_or pairs i d) ∷ []) []) ≡ (if b then contact_at s.numbers x (part_pair s.surface (get_or pairs i d)) ∷ [] else [])
    one true = refl
    one false = refl
