-- Where no run of n backticks ends later than `at`, there is none to search for.
use Rattle.ticks.proofs.Passing.{none_later}
use Rattle.ticks.proofs.closing_run_quick.Goals as goal

pub returns-then-table-n : goal.returns-then-table-n
returns-then-table-n c =
    let a = c.args in
    let r = c.requires in
    none_later a.p.now a.table.now r.last_runs a.at a.n r.n_nonzero r.at_value c.if-n-lt-LENGTHS.true c.if-table-n.true
