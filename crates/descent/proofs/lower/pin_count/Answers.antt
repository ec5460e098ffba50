use Rattle.std.proofs.Common.{◌≡◌, take, count_by, ◌∙◌, arith, rules}
use Rattle.descent.proofs.Counts.{is_pin, pins_counted}
use Rattle.descent.proofs.lower.pin_count.Goals as goal

-- by hand: the check does not turn a count of a list into a sum over its places

pub returns : goal.returns
returns c =
    let problem = c.args.problem.now in
    let count : c.count.result ≡ count_by is_pin (take problem.components problem.pins) = search rules in
    count ∙ pins_counted problem.pins problem.components (omega arith)
