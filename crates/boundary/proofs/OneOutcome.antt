-- A mesh has a surface or one reason why it has none.
use Rattle.std.proofs.Common.{◌≡◌, ◌∙◌, ℕ, ◌≤◌, List, length, take, inl, inr, ap, sym, arith}
use Rattle.std.specs.Prelude.{Result, Ok, Err}
use Rattle.space3.specs.declared.mesh.Mesh.{Mesh}
use Rattle.boundary.specs.declared.limits.TheConstants.{TRIANGLE_LIMIT}
use Rattle.boundary.specs.declared.refusal.SurfErr.{SurfErr}
use Rattle.boundary.specs.declared.refusal.SurfErr.TheVariants.{Memory, FaceThrice, FaceSame, TooManyTriangles}
use Rattle.boundary.specs.Faces.{node_order, owners_of}
use Rattle.boundary.specs.Outcomes.{IsSurfaceOutcome, IsUsableSurface}
use Rattle.boundary.specs.Refusals.{AreTooMany, IsLeast, IsSame, IsThrice}
use Rattle.boundary.specs.SortedLists.{IsSortedListOf}
use Rattle.boundary.specs.Surface.{IsBoundaryFace, SurfaceLists}
use Rattle.boundary.proofs.OneSurface.{one_list, one_surface}
use Rattle.boundary.proofs.Order.{is_total, ways}

-- there is one least
one_least : (P : List ℕ → Type 0) (x y : List ℕ) → IsLeast P x → IsLeast P y → x ≡ y
one_least P x y a b =
    elim (ways x y) [
      | inl less ↦ absurd (b.least x a.holds less)
      | inr other ↦ elim other [
        | inl same ↦ same
        | inr less ↦ absurd (a.least y b.holds less)
      ]
    ]

-- so many triangles are not few
not_few : (mesh : Mesh) (count : ℕ) (triangles : List (List ℕ)) → AreTooMany mesh count → IsSortedListOf node_order (IsBoundaryFace mesh) triangles → length triangles ≤ TRIANGLE_LIMIT → ⊥
not_few mesh count triangles a single few =
    omega (arith, few, a.many, a.counted, ap length (one_list (IsBoundaryFace mesh) a.triangles triangles is_total a.single single))

-- a mesh with a surface that can be used isn't refused
not_refused : (mesh : Mesh) (surface : SurfaceLists) (error : SurfErr) → IsUsableSurface mesh surface → IsSurfaceOutcome mesh (Err error) → ⊥
not_refused mesh surface Memory s h = h
not_refused mesh surface (FaceThrice tets) s h = s.conforming.none_thrice h.corners h.least.holds
not_refused mesh surface (FaceSame tets) s h = s.conforming.none_same h.corners h.least.holds
not_refused mesh surface (TooManyTriangles count) s h = not_few mesh count surface.triangles h s.is_surface.triangles s.few

-- there is one refusal
one_refusal : (mesh : Mesh) (a b : SurfErr) → IsSurfaceOutcome mesh (Err a) → IsSurfaceOutcome mesh (Err b) → a ≡ b
one_refusal mesh Memory b h k = absurd h
one_refusal mesh a Memory h k = absurd k
one_refusal mesh (FaceThrice t) (FaceThrice u) h k = ap FaceThrice (h.first_three ∙ ap (λ corners. take 3 (owners_of mesh corners)) (one_least (IsThrice mesh) h.corners k.corners h.least k.least) ∙ sym k.first_three)
one_refusal mesh (FaceThrice t) (FaceSame u) h k = absurd (k.none_thrice h.corners h.least.holds)
one_refusal mesh (FaceThrice t) (TooManyTriangles n) h k = absurd (k.conforming.none_thrice h.corners h.least.holds)
one_refusal mesh (FaceSame t) (FaceThrice u) h k = absurd (h.none_thrice k.corners k.least.holds)
one_refusal mesh (FaceSame t) (FaceSame u) h k = ap FaceSame (h.both ∙ ap (owners_of mesh) (one_least (IsSame mesh) h.corners k.corners h.least k.least) ∙ sym k.both)
one_refusal mesh (FaceSame t) (TooManyTriangles n) h k = absurd (k.conforming.none_same h.corners h.least.holds)
one_refusal mesh (TooManyTriangles m) (FaceThrice u) h k = absurd (h.conforming.none_thrice k.corners k.least.holds)
one_refusal mesh (TooManyTriangles m) (FaceSame u) h k = absurd (h.conforming.none_same k.corners k.least.holds)
one_refusal mesh (TooManyTriangles m) (TooManyTriangles n) h k = ap TooManyTriangles (h.counted ∙ ap length (one_list (IsBoundaryFace mesh) h.triangles k.triangles is_total h.single k.single) ∙ sym k.counted)

-- of a mesh one surface comes, or one refusal
pub one_surface_outcome : (mesh : Mesh) (a b : Result SurfaceLists SurfErr) → IsSurfaceOutcome mesh a → IsSurfaceOutcome mesh b → a ≡ b
one_surface_outcome mesh (Ok s) (Ok t) h k = ap Ok (one_surface mesh s t h.is_surface k.is_surface)
one_surface_outcome mesh (Ok s) (Err e) h k = absurd (not_refused mesh s e h k)
one_surface_outcome mesh (Err e) (Ok t) h k = absurd (not_refused mesh t e k h)
one_surface_outcome mesh (Err a) (Err b) h k = ap Err (one_refusal mesh a b h k)
