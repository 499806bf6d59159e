use Rattle.std.proofs.Common.{◌≡◌, ◌∙◌, ◌^◌, ◌<◌, ℤ, pos, ◌<ℤ◌, ◌≤ℤ◌, unsigned_abs, subst, sym, ap, arith, to_z, of_z}
use Rattle.std.specs.Int.{w128}
use Rattle.std.proofs.lemmas.Int.{ints, to_z-of_z}
use Rattle.vec_q.specs.Matrices.{determinant_of}
use Rattle.vec_q.specs.Widths.{AreWithin}
use Rattle.neo_hooke.specs.Rest.{edge_matrix}
use Rattle.neo_hooke.proofs.rest.rest_tet.Goals as goal

above_zero : (z : ℤ) → pos 262144 ≤ℤ z → pos 0 <ℤ z
above_zero z h = omega (arith, ints)

pub returns-clause-range : goal.returns-clause-range
returns-clause-range c =
    let raw : to_z w128 (of_z w128 c.raw.result) ≡ c.determinant.result.raw = to_z-of_z w128 c.raw.result (record { sfits = c.raw.type_inv }) ∙ c.raw.ensures in
    let value = raw ∙ c.determinant.ensures ∙ ap determinant_of c.rest_edges-edges.ensures in
    record {
      positive = subst (λ (z : ℤ). pos 0 <ℤ z) (sym value) (above_zero (determinant_of (edge_matrix c.args.x.now)) c.requires.volume);
      narrow = subst (λ (z : ℤ). unsigned_abs z < 2 ^ 45) (sym raw) c.determinant.result.in_range;
      adj = subst (AreWithin (2 ^ 29)) (sym c.rows_of.ensures) c.adjugate_of.ensures.bound;
    }
