use Rattle.std.proofs.Common.{rules, tests, ◌∙◌, take, arith}
use Rattle.std.proofs.lemmas.Iterator.{YieldsList-from_slice, YieldsList-from_zip}
use Rattle.std.proofs.lemmas.Iterator.Consumers.{YieldsList-from_filter, YieldsList-at, count_from_yields_List}
use Rattle.descent.proofs.Counts.{is_moved, moves_counted}
use Rattle.descent.proofs.whole.distance.Goals as goal

-- by hand: the check does not turn a count over two lists side by side into a sum over places

pub returns : goal.returns
returns c =
    let problem = c.args.problem.now in
    count_from_yields_List c.filter.result _ c.count.ensures.ran
    (YieldsList-from_filter _ is_moved (YieldsList-at c.filter.ensures.source (YieldsList-from_zip (YieldsList-at c.zip.ensures.first (YieldsList-from_slice (take problem.components problem.pins) (cc))) (YieldsList-from_slice c.args.set.now (cc))))
    c.filter.ensures.closure (λ x r q k. search (rules, tests)))
    ∙ moves_counted problem.pins c.args.set.now problem.components (omega arith) (omega arith)
