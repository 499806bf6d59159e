use Rattle.std.proofs.Common.{◌∙◌, ℤ, List, Some, sym, ap}
use Rattle.std.proofs.lemmas.Result.{err_from_is_err_and}
use Rattle.line_fields.specs.Lines.{fields}
use Rattle.msh_rows.specs.Rows.{tet}
use Rattle.msh_rows.proofs.ElementRows.{head_wrong, tags_wrong, nodes_wrong, corners_wrong, tet_right, other_right}
use Rattle.msh_rows.proofs.elements.read_element.Goals as goal

pub returns-in-Err : goal.returns-in-Err
returns-in-Err c = head_wrong c.args.nodes.now c.args.tets (fields c.args.line.now) c.in-Err.kind c.in-Err.ensures.head

pub returns-in_err-rest : goal.returns-in_err-rest
returns-in_err-rest c =
    let p = err_from_is_err_and c.from_residual.result c.from_residual.ensures.1 in
    rw (p.1, p.2) (tags_wrong c.args.nodes.now c.args.tets (fields c.args.line.now) c.in-Ok.head c.in_err-rest.field-0.0 c.in-Ok.ensures.free c.in-Ok.ensures.head c.in_err-rest.ensures)

pub returns-in-Err-read_tet_corners : goal.returns-in-Err-read_tet_corners
returns-in-Err-read_tet_corners c =
    corners_wrong c.args.nodes.now c.args.tets (fields c.args.line.now) c.in-Ok.head (fields c.in_ok-rest.rest.now) _ c.in-Err-read_tet_corners.kind
    (record { free = c.in-Ok.ensures.free; is_head = c.in-Ok.ensures.head; are_tags = c.in_ok-rest.ensures }) c.in-Tetrahedron.is c.in-Err-read_tet_corners.ensures

pub returns-in_ok-tags-in-Tetrahedron : goal.returns-in_ok-tags-in-Tetrahedron
returns-in_ok-tags-in-Tetrahedron c =
    let t = tet_right c.args.nodes.now c.args.tets (fields c.args.line.now) c.in-Ok.head (fields c.in_ok-rest.rest.now) _ c.in-Ok-read_tet_corners.corners
    (record { free = c.in-Ok.ensures.free; is_head = c.in-Ok.ensures.head; are_tags = c.in_ok-rest.ensures }) c.in-Tetrahedron.is c.in-Ok-read_tet_corners.ensures.0 c.in-Ok-read_tet_corners.ensures.1 in
    let same = c.in_ok-tags-in-Tetrahedron.ensures.list ∙ c.deref.ensures.value in
    (t.free, t.value ∙ ap (λ (ts : List ℤ). Some (Some (tet c.in-Ok.head.number c.in-Ok-read_tet_corners.corners ts))) (sym same))

pub returns-in-Ok-check_nodes : goal.returns-in-Ok-check_nodes
returns-in-Ok-check_nodes c =
    let t = other_right c.args.nodes.now c.args.tets (fields c.args.line.now) c.in-Ok.head (fields c.in_ok-rest.rest.now) _
    (record { free = c.in-Ok.ensures.free; is_head = c.in-Ok.ensures.head; are_tags = c.in_ok-rest.ensures }) c.in_default.not-Tetrahedron c.in-Ok-check_nodes.ensures in
    (t.free, t.value)

pub returns-in-Err-check_nodes : goal.returns-in-Err-check_nodes
returns-in-Err-check_nodes c =
    nodes_wrong c.args.nodes.now c.args.tets (fields c.args.line.now) c.in-Ok.head (fields c.in_ok-rest.rest.now) _ c.in-Err-check_nodes.kind
    (record { free = c.in-Ok.ensures.free; is_head = c.in-Ok.ensures.head; are_tags = c.in_ok-rest.ensures }) c.in-Err-check_nodes.ensures
