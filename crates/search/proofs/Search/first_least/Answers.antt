use Rattle.std.proofs.Common.{◌≡◌, Result, Ok, Err, None, OnErr, length, sym, ◌∙◌, rules}
use Rattle.std.specs.Result.{result_ok}
use Rattle.search.proofs.Linking.{dead_none, row_dead_none, chosen}
use Rattle.search.proofs.Search.first_least.Goals as goal

-- by hand: the check does not carry an answer about the problem over to the archive that it was made from

-- what is said of the error, where there is no value
of_error : {A E : Type 0} (r : Result A E) (P : Type 0) → result_ok r ≡ None → OnErr r P → P
of_error (Ok x) P none h = cc
of_error (Err e) P none h = h

pub returns-in_err-ok : goal.returns-in_err-ok
returns-in_err-ok g c =
    let archive = c.args.self.now.archive.now in
    rw c.from_residual.ensures
    (dead_none (g.A.Archive.meaning archive) (g.met.A.Archive.sound archive) c.args.pins.now c.told-pins c.fill-tables.result c.fill-tables.ensures
    (of_error _ _ (sym c.ok.ensures.value ∙ c.in_err-ok.was) c.propagate.ensures.dead))

pub returns-in_err-least : goal.returns-in_err-least
returns-in_err-least g c =
    let archive = c.args.self.now.archive.now in
    rw c.from_residual-in_err-least.ensures
    (row_dead_none (g.A.Archive.meaning archive) (g.met.A.Archive.sound archive) c.args.pins.now c.told-pins c.fill-tables.result c.fill-tables.ensures
    c.propagate.new.row c.propagate.ensures.keeps c.propagate.ensures.narrower c.in_err-least.ensures)

pub returns : goal.returns
returns g c =
    let archive = c.args.self.now.archive.now in
    let long : length c.lead.result.set ≡ 64 = search rules in
    chosen (g.A.Archive.meaning archive) (g.met.A.Archive.sound archive) c.args.pins.now c.told-pins c.fill-tables.result c.fill-tables.ensures
    c.propagate.new.row c.propagate.ensures.keeps c.propagate.ensures.narrower
    c.in_ok-least.least.distance c.in_ok-least.ensures.least c.lead.result long c.lead.ensures
