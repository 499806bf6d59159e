-- Turns of conjugate gradients in whole numbers, where the residual is made anew from the solution so far.
use Rattle.std.specs.Prelude.{◌≡◌, ◌*◌, ◌^◌, ◌≤◌, ℤ, pos, ◌+ℤ◌, ◌-ℤ◌, ◌*ℤ◌, ◌<ℤ◌, List, map, sum, unsigned_abs}
use Rattle.std.specs.Prelude.{replicate}
use Rattle.num_q.specs.Rounding.{floor_of, cut_of}
use Rattle.list_laws.specs.Sums.{total}
use Rattle.sparse_cg.specs.Systems.{System, apply, combined, over_diagonal}

-- the numbers of a turn: the solution so far and its residual, the next way, and the residual times itself over the
-- diagonal
pub record Numbers : Type 0 where
  pub x : List ℤ
  pub r : List ℤ
  pub p : List ℤ
  pub rho : ℤ

-- the sum of the products of two lists' elements
abbrev pub dot : List ℤ → List ℤ → ℤ
dot xs ys = total (combined (λ x y. x *ℤ y) xs ys)

-- the quotient of two numbers with 20 fraction bits
abbrev pub ratio : ℤ → ℤ → ℤ
ratio a b = cut_of 60 (floor_of (a *ℤ pos (2 ^ 20)) b)

-- a number, and so much of another
abbrev pub moved : (share : ℤ) → ℤ → ℤ → ℤ
moved share number way = cut_of 44 (number +ℤ floor_of (share *ℤ way) (pos (2 ^ 20)))

-- the way times the matrix times the way
abbrev pub curvature : System → Numbers → ℤ
curvature system n = dot n.p (map (cut_of 44) (apply system n.p))

-- what is left of the right side
abbrev pub residual : System → List ℤ → List ℤ
residual system x = combined (λ b number. cut_of 44 (b -ℤ number)) system.target (apply system x)

abbrev pub start : System → Numbers
start system =
    let z = over_diagonal system system.target in record {
      x = replicate (3 * system.nodes) (pos 0);
      r = system.target;
      p = z;
      rho = dot system.target z;
    }

-- a step along the way, and the residual there
abbrev pub approached : System → Numbers → Numbers
approached system n =
    let x = combined (moved (ratio n.rho (curvature system n))) n.x n.p in record {
      x = x;
      r = residual system x;
      p = n.p;
      rho = n.rho;
    }

-- the next way
abbrev pub renewed : System → Numbers → Numbers
renewed system n =
    let z = over_diagonal system n.r in
    let rho = dot n.r z in record {
      x = n.x;
      r = n.r;
      p = combined (moved (ratio rho n.rho)) z n.p;
      rho = rho;
    }

-- one turn's numbers from those of the one before
abbrev pub turned : System → Numbers → Numbers
turned system n = renewed system (approached system n)

-- a turn follows on another
pub record IsTurn (system : System) (before after : Numbers) : Type 0 where
  pub bends : pos 0 <ℤ curvature system before
  pub remains : pos 0 <ℤ before.rho
  pub is : after ≡ turned system before

-- the residual is at most a quarter of the right side, in the sums of absolute values
pub record IsClose (system : System) (n : Numbers) : Type 0 where
  pub quarter : 4 * sum (map unsigned_abs n.r) ≤ sum (map unsigned_abs system.target)
