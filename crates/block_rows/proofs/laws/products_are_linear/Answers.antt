use Rattle.block_rows.proofs.Linear.{product_of_multiple, product_of_sum}
use Rattle.block_rows.proofs.laws.products_are_linear.Goals as goal

pub returns-clause-sum : goal.returns-clause-sum
returns-clause-sum c = product_of_sum

pub returns-clause-multiple : goal.returns-clause-multiple
returns-clause-multiple c = λ nodes table k p. product_of_multiple k nodes table p
