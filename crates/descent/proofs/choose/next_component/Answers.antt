use Rattle.std.proofs.Common.{◌≡◌, ℕ, ◌+◌, ◌<◌, Bool, true, ltb, Some, length, get_or, filter, sym, ap, ◌∙◌, arith, rules, tests}
use Rattle.std.proofs.iter.runs.Sources.{range_runs}
use Rattle.std.proofs.lemmas.Bool.{ltb-false}
use Rattle.masks.specs.Masks.{size}
use Rattle.descent.proofs.Counts.{none_kept}
use Rattle.descent.proofs.Options.{is_some_and, if_some}
use Rattle.descent.proofs.choose.next_component.Goals as goal

-- by hand: the check does not follow a filtered and mapped range to the place that the least candidate came from

-- no candidate came, so the filter kept no component
pub returns-in_err-min_by : goal.returns-in_err-min_by
returns-in_err-min_by c =
    let several : ℕ → Bool = λ k. ltb 1 (size 32 (get_or c.args.row.now k 0)) in
    let p = c.in_err-min_by.ensures.runs in
    let q = c.map-candidates.ensures.runs p.0 p.0.seen p.1 in
    let u = c.filter-unsettled.ensures.runs q.0 q.0.seen q.1 in
    let range = range_runs u.0 u.0.seen in
    let kept : q.0.items ≡ filter several u.0.items = u.2.4 several (λ x r f h. search (rules, tests)) in
    let none : length (filter several u.0.items) ≡ 0 = sym (ap length kept) ∙ omega (arith, q.0.long, q.2.1, p.3) in
    let whole : u.0.whole ≡ true = u.2.0 ∙ q.2.0 ∙ p.2 in
    let start : u.0.from.start ≡ 0 = search rules in
    let end : u.0.from.end ≡ c.args.problem.now.components = search rules in
    rw c.from_residual.ensures (λ k l.
    let inside : k < u.0.len = omega (arith, range.1 whole, start, end) in
    let read : Some (get_or u.0.items k 0) ≡ Some (u.0.from.start + k) = sym (u.0.reads k 0 inside) ∙ range.3 k inside in
    let same : get_or u.0.items k 0 ≡ u.0.from.start + k = cc in
    let item : get_or u.0.items k 0 ≡ k = omega (arith, same, start) in
    ltb-false 1 _ (rw item at (none_kept several u.0.items none k (omega (arith, u.0.long, inside)))))

-- the candidate came of a component that the filter kept
pub returns : goal.returns
returns c =
    let p = c.in_ok-min_by.ensures.runs in
    let q = c.map-candidates.ensures.runs p.0 p.0.seen p.1 in
    let u = c.filter-unsettled.ensures.runs q.0 q.0.seen q.1 in
    let k : ℕ = p.3.0 in
    let i = is_some_and (p.0.at k) _ p.3.2 in
    let called = if_some (p.0.at k) _ i.0 ((q.2.2 (λ a r f h. search rules)).1 k) i.1 in
    let j = is_some_and (q.0.at k) _ called in
    let passed = if_some (q.0.at k) _ j.0 (u.2.3 (λ a r f h. search rules) k) j.1 in
    let any = if_some (q.0.at k) _ j.0 (u.2.2 k) j.1 in
    let y = is_some_and (u.0.at any.0) _ any.2 in
    let low = if_some (u.0.at any.0) _ y.0 ((range_runs u.0 u.0.seen).2 any.0) y.1 in
    let component : i.0.component ≡ j.0 = search rules in
    let below : j.0 < c.args.problem.now.components = search rules in
    let more : 1 < size 32 (get_or c.args.row.now j.0 0) = search (rules, tests) in
    rw (sym i.2, component) (below, more)
