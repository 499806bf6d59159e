use Rattle.box_grid.proofs.ShortNumbers.{component_is, opposite_is, short_is}
use Rattle.box_grid.proofs.entries.numbers_of.Goals as goal

pub returns : goal.returns
returns c =
    let near = c.args.near.now in
    let far = c.args.far.now in
    λ t. record {
      x = component_is c.short.result near.x (record { sfits = c.short.type_inv }) c.requires.near.x c.short.ensures t;
      y = component_is c.short-2.result near.y (record { sfits = c.short-2.type_inv }) c.requires.near.y c.short-2.ensures t;
      z = component_is c.short-3.result near.z (record { sfits = c.short-3.type_inv }) c.requires.near.z c.short-3.ensures t;
      far_x = opposite_is c.short-4.result far.x (record { sfits = c.short-4.type_inv }) c.requires.far.x c.short-4.ensures t;
      far_y = opposite_is c.short-5.result far.y (record { sfits = c.short-5.type_inv }) c.requires.far.y c.short-5.ensures t;
      far_z = opposite_is c.short-6.result far.z (record { sfits = c.short-6.type_inv }) c.requires.far.z c.short-6.ensures t;
      item = short_is c.short_item.result _ (record { sfits = c.short_item.type_inv }) c.short_item.ensures t;
      key = short_is c.short_key.result _ (record { sfits = c.short_key.type_inv }) c.short_key.ensures t;
    }
