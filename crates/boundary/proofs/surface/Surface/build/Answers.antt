use Rattle.std.proofs.Common.{◌∙◌, ◌*◌, ◌≤◌, ap, subst, sym, length, map, arith}
use Rattle.std.specs.Prelude.{find, filter}
use Rattle.std.specs.Option.{option_map}
use Rattle.boundary.specs.Calls.Groups.{are_two_alike, first_corners, first_tets, groups_of, has_one, has_three}
use Rattle.space3.specs.Mesh.{HasNodes}
use Rattle.boundary.specs.Surface.{AreEdges, AreVertices, IsSurface, SurfaceLists}
use Rattle.boundary.proofs.OwnersInGroups.{conforming, groups_of_mesh, least_thrice, least_same, none_thrice, singles}
use Rattle.boundary.proofs.SurfaceFacts.{surface_lists, surface_placed}
use Rattle.boundary.proofs.surface.Surface.build.Goals as goal

pub returns-in-Some-clause-refused : goal.returns-in-Some-clause-refused
returns-in-Some-clause-refused c =
    let mesh = c.args.mesh.now in
    let faces = c.in_ok-faces.faces.items in
    least_thrice mesh (groups_of faces) c.in-Some.tets
    (groups_of_mesh mesh faces c.in_ok-faces.ensures.sorted c.in_ok-faces.ensures.same)
    (c.in-Some.ensures ∙ ap (λ l. option_map (first_tets 3) (find has_three (groups_of l))) c.deref.ensures.value)

pub returns-in-Some-first_same-clause-refused : goal.returns-in-Some-first_same-clause-refused
returns-in-Some-first_same-clause-refused c =
    let mesh = c.args.mesh.now in
    let faces = c.in_ok-faces.faces.items in
    let groups = groups_of_mesh mesh faces c.in_ok-faces.ensures.sorted c.in_ok-faces.ensures.same in
    least_same mesh (groups_of faces) c.in-Some-first_same.tets groups
    (none_thrice mesh (groups_of faces) groups
    (c.in_default.ensures ∙ ap (λ l. option_map (first_tets 3) (find has_three (groups_of l))) c.deref.ensures.value))
    (c.in-Some-first_same.ensures
    ∙ ap (λ l. option_map (first_tets 2) (find are_two_alike (groups_of l))) c.deref-2.ensures.value)

pub returns-then-len-clause-refused : goal.returns-then-len-clause-refused
returns-then-len-clause-refused c =
    let mesh = c.args.mesh.now in
    let faces = c.in_ok-faces.faces.items in
    let groups = groups_of_mesh mesh faces c.in_ok-faces.ensures.sorted c.in_ok-faces.ensures.same in
    record {
      conforming = conforming mesh (groups_of faces) groups
          (c.in_default.ensures ∙ ap (λ l. option_map (first_tets 3) (find has_three (groups_of l))) c.deref.ensures.value)
          (c.in_default-first_same.ensures
          ∙ ap (λ l. option_map (first_tets 2) (find are_two_alike (groups_of l))) c.deref-2.ensures.value);
      triangles = c.in_ok-triangles.triangles.items;
      single = singles mesh (groups_of faces) c.in_ok-triangles.triangles.items groups
          (c.in_ok-triangles.ensures ∙ ap (λ l. map first_corners (filter has_one (groups_of l))) c.deref-3.ensures.value);
      counted = c.len-then-len.ensures ∙ c.in_ok-triangles.triangles.ok.0;
      many = omega (arith, c.if-len.true, c.len.ensures, c.len-then-len.ensures);
    }

pub of_lists-requires : goal.of_lists-requires
of_lists-requires c =
    let mesh = c.args.mesh.now in
    let faces = c.in_ok-faces.faces.items in
    let triangles = c.in_ok-triangles.triangles.items in
    surface_lists mesh (groups_of faces)
    (record { vertices = c.in_ok-vertices.vertices.items; edges = c.in_ok-edges.edges.items; triangles = triangles })
    c.requires
    (groups_of_mesh mesh faces c.in_ok-faces.ensures.sorted c.in_ok-faces.ensures.same)
    (c.in_ok-triangles.ensures ∙ ap (λ l. map first_corners (filter has_one (groups_of l))) c.deref-3.ensures.value)
    (omega (arith, c.if-len.false, c.len.ensures, c.in_ok-triangles.triangles.ok.0))
    (subst (λ l. length c.in_ok-edges.edges.items ≤ 3 * length l) c.deref-4.ensures.value c.in_ok-edges.ensures.few)
    (subst (λ l. length c.in_ok-vertices.vertices.items ≤ 3 * length l) c.deref-5.ensures.value c.in_ok-vertices.ensures.few)
    (subst (λ l. AreEdges l c.in_ok-edges.edges.items) c.deref-4.ensures.value c.in_ok-edges.ensures.edges)
    (subst (λ l. AreVertices l c.in_ok-vertices.vertices.items) c.deref-5.ensures.value c.in_ok-vertices.ensures.vertices)

pub returns-clause-surface : goal.returns-clause-surface
returns-clause-surface c =
    let mesh = c.args.mesh.now in
    let faces = c.in_ok-faces.faces.items in
    subst (IsSurface mesh) (sym c.of_lists.ensures.value)
    (record {
      triangles = singles mesh (groups_of faces) c.in_ok-triangles.triangles.items
          (groups_of_mesh mesh faces c.in_ok-faces.ensures.sorted c.in_ok-faces.ensures.same)
          (c.in_ok-triangles.ensures ∙ ap (λ l. map first_corners (filter has_one (groups_of l))) c.deref-3.ensures.value);
      edges = subst (λ l. AreEdges l c.in_ok-edges.edges.items) c.deref-4.ensures.value c.in_ok-edges.ensures.edges;
      vertices = subst (λ l. AreVertices l c.in_ok-vertices.vertices.items) c.deref-5.ensures.value c.in_ok-vertices.ensures.vertices;
    })

pub returns-clause-conforming : goal.returns-clause-conforming
returns-clause-conforming c =
    let mesh = c.args.mesh.now in
    let faces = c.in_ok-faces.faces.items in
    conforming mesh (groups_of faces)
    (groups_of_mesh mesh faces c.in_ok-faces.ensures.sorted c.in_ok-faces.ensures.same)
    (c.in_default.ensures ∙ ap (λ l. option_map (first_tets 3) (find has_three (groups_of l))) c.deref.ensures.value)
    (c.in_default-first_same.ensures
    ∙ ap (λ l. option_map (first_tets 2) (find are_two_alike (groups_of l))) c.deref-2.ensures.value)

pub returns-clause-placed : goal.returns-clause-placed
returns-clause-placed c =
    let mesh = c.args.mesh.now in
    let faces = c.in_ok-faces.faces.items in
    subst (λ (s : SurfaceLists). HasNodes mesh.places s.vertices) (sym c.of_lists.ensures.value)
    (surface_placed mesh (groups_of faces) c.in_ok-triangles.triangles.items c.in_ok-vertices.vertices.items c.requires
    (groups_of_mesh mesh faces c.in_ok-faces.ensures.sorted c.in_ok-faces.ensures.same)
    (c.in_ok-triangles.ensures ∙ ap (λ l. map first_corners (filter has_one (groups_of l))) c.deref-3.ensures.value)
    (subst (λ l. AreVertices l c.in_ok-vertices.vertices.items) c.deref-5.ensures.value c.in_ok-vertices.ensures.vertices))
