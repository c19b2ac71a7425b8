use Rattle.std.proofs.Common.{ℕ}
use Rattle.std.proofs.lemmas.List.{take-replicate}
use Rattle.order.specs.Graph.{dep, most_signals}
use Rattle.order.proofs.Places.{good_none}
use Rattle.order.proofs.order_of.Goals as goal

-- the places begin as zeros, so nothing is in the order yet
pub visit_all-requires : goal.visit_all-requires
visit_all-requires c = rw (take-replicate {X = ℕ} c.args.n most_signals 0 c.requires.0) (good_none (dep c.args.deps.now) c.args.order.now c.args.n c.requires.1 c.requires.0)
