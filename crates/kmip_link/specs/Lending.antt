-- A link with planned failures, after the borrow of its link in memory has ended.
use Rattle.std.specs.Borrow.{Lends, Fml, MutBor}
use Rattle.kmip_link.specs.contracts.planned_link.PlannedLink.{the_row}
use Rattle.kmip_link.specs.Plan.{MemoryState, PlannedState}

abbrev pub lends_memory : MutBor PlannedState → MutBor MemoryState → Fml
lends_memory s r = Lends the_row Rattle.kmip_link.specs.contracts.memory_link.MemoryLink.the_row s r
    (λ w. record s.now { link = w })
