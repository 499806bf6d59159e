use Rattle.std.proofs.Common.{◌≡◌, ◌∙◌, ap, sym}
use Rattle.boundary.specs.declared.refusal.SurfErr.TheVariants as surfaces
use Rattle.report_text.specs.declared.line.Line.TheVariants as lines
use Rattle.ipc_top.specs.Meshes.{MeshMakes, surface_refused_plan}
use Rattle.ipc_top.specs.Plans.{refusal}
use Rattle.ipc_top.proofs.Outcomes.{makes_texts, some_making, surface_refused}
use Rattle.ipc_top.proofs.Taking.{looked_nothing}
use Rattle.ipc_top.proofs.mesh.end_without_surface.Goals as goal

pub returns-in-Memory : goal.returns-in-Memory
returns-in-Memory g c = λ numbers s.
    let found = some_making numbers c.args.mesh.now in
    looked_nothing (MeshMakes numbers c.args.mesh.now) found.0 _ found.1 (makes_texts numbers c.args.mesh.now found.0 found.1)

pub returns-in-FaceThrice : goal.returns-in-FaceThrice
returns-in-FaceThrice g c = λ numbers s.
    let mesh = c.args.mesh.now in
    let other : c.args.err ≡ surfaces.Memory → ⊥ = λ e. cc (c.in-FaceThrice.is, e) in
    let plan : refusal c.thrice_line.result 6 ≡ surface_refused_plan mesh c.args.err = ap (λ line. refusal line 6) c.thrice_line.ensures ∙ sym (ap (surface_refused_plan mesh) c.in-FaceThrice.is) in
    surface_refused numbers mesh c.args.err (refusal c.thrice_line.result 6) _ other c.requires plan (c.refuse.ensures s)

pub returns-in-FaceSame : goal.returns-in-FaceSame
returns-in-FaceSame g c = λ numbers s.
    let mesh = c.args.mesh.now in
    let other : c.args.err ≡ surfaces.Memory → ⊥ = λ e. cc (c.in-FaceSame.is, e) in
    let plan : refusal c.same_line.result 6 ≡ surface_refused_plan mesh c.args.err = ap (λ line. refusal line 6) c.same_line.ensures ∙ sym (ap (surface_refused_plan mesh) c.in-FaceSame.is) in
    surface_refused numbers mesh c.args.err (refusal c.same_line.result 6) _ other c.requires plan (c.refuse-in-FaceSame.ensures s)

pub returns-in-TooManyTriangles : goal.returns-in-TooManyTriangles
returns-in-TooManyTriangles g c = λ numbers s.
    let mesh = c.args.mesh.now in
    let other : c.args.err ≡ surfaces.Memory → ⊥ = λ e. cc (c.in-TooManyTriangles.is, e) in
    surface_refused numbers mesh c.args.err (refusal (lines.Triangles c.in-TooManyTriangles.count) 6) _ other c.requires (sym (ap (surface_refused_plan mesh) c.in-TooManyTriangles.is)) (c.refuse-in-TooManyTriangles.ensures s)
