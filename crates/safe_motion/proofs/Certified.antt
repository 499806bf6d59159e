-- What certificates are worth.
use Rattle.std.proofs.Common.{ℕ, ◌^◌, pos, ◌<ℤ◌, List}
use Rattle.std.proofs.lemmas.Nat.{pow_pos}
use Rattle.std.proofs.lemmas.List.Elements.{All-weaker}
use Rattle.space3.specs.declared.vectors.V3.{V3}
use Rattle.safe_motion.specs.declared.motion.Move.{Move}
use Rattle.safe_motion.specs.Moments.{IsFraction, IsInside, places_at}
use Rattle.safe_motion.specs.Meeting.{MeetAt}
use Rattle.safe_motion.specs.declared.motion.Corners.{Corners}
use Rattle.safe_motion.specs.Certificates.{IsServed, PairCertificate, VolumeCertificate, volume_at}
use Rattle.safe_motion.specs.Safety.{PartPair, SafeMotion, IsCertified, node_moves, corners}
use Rattle.safe_motion.proofs.Inside.{some_interval}
use Rattle.safe_motion.proofs.Separation.{separates_inside, meeting_excludes_separation}
use Rattle.safe_motion.proofs.Volumes.{volume_inside}

pub served_apart : (xs ys : List Move) (p q j m : ℕ) → IsInside p q j m → IsServed xs ys j m → ¬ MeetAt p q xs ys
served_apart xs ys p q j m inside served = λ w.
    meeting_excludes_separation served.normal w.0 w.1 (places_at p q xs) (places_at p q ys) w.2
    (separates_inside served.normal xs ys p q j m inside served.serves)

pub certified_apart : (depth : ℕ) (xs ys : List Move) → PairCertificate depth xs ys → (p q : ℕ) → IsFraction p q → ¬ MeetAt p q xs ys
certified_apart depth xs ys certificate p q f =
    let i = some_interval p q (2 ^ depth) (pow_pos depth) f in
    served_apart xs ys p q i.0 (2 ^ depth) i.2 (certificate i.0 i.1)

pub certified_positive : (depth : ℕ) (t : Corners) → VolumeCertificate depth t → (p q : ℕ) → IsFraction p q → pos 0 <ℤ volume_at p q t
certified_positive depth t certificate p q f =
    let i = some_interval p q (2 ^ depth) (pow_pos depth) f in
    volume_inside t p q i.0 (2 ^ depth) i.2 (certificate i.0 i.1)

pub certified_safe : (depth : ℕ) (pairs : List PartPair) (tets : List (List ℕ)) (x0 x1 : List V3) → IsCertified depth pairs tets x0 x1 → SafeMotion pairs tets x0 x1
certified_safe depth pairs tets x0 x1 c = record {
  apart = λ p q f. All-weaker
      (λ pair. PairCertificate depth (node_moves x0 x1 pair.left) (node_moves x0 x1 pair.right))
      (λ pair. ¬ MeetAt p q (node_moves x0 x1 pair.left) (node_moves x0 x1 pair.right))
      (λ pair certificate. certified_apart depth (node_moves x0 x1 pair.left) (node_moves x0 x1 pair.right) certificate p q f) pairs c.pairs_apart;
  upright = λ p q f. All-weaker
      (λ tet. VolumeCertificate depth (corners x0 x1 tet)) (λ tet. pos 0 <ℤ volume_at p q (corners x0 x1 tet))
      (λ tet certificate. certified_positive depth (corners x0 x1 tet) certificate p q f) tets c.tets_upright;
}
