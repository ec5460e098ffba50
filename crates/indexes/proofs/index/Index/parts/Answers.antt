use Rattle.std.proofs.Common.{List, ◌∙◌}
use Rattle.std.proofs.lemmas.Bool.{eq-eqb, not_from_true}
use Rattle.tables.specs.Held.{held}
use Rattle.indexes.specs.declared.components.ComponentRow.{ComponentRow}
use Rattle.indexes.specs.Counting.{asked_own, asked_apart}
use Rattle.indexes.proofs.index.Index.parts.Goals as goal

-- by hand: the check does not apply a lemma to the law of a row kind that is a parameter

pub returns-then-x-y : goal.returns-then-x-y
returns-then-x-y g c =
    let rows : List ComponentRow = held c.args.self.now.components.rows in
    let asked = asked_apart rows (g.R.ClashRow.counts rows) g.R.ClashRow.parts (g.met.R.ClashRow.laws rows) (held c.args.self.now.rows) c.args.x.component c.args.x.release c.args.y.component c.args.y.release c.requires.first c.requires.second c.if-x-y.true in
    cc

pub returns-else-x-y : goal.returns-else-x-y
returns-else-x-y g c =
    let rows : List ComponentRow = held c.args.self.now.components.rows in
    not_from_true _ (eq-eqb _ _ c.if-x-y.false) ∙ asked_own rows (g.R.ClashRow.counts rows) g.R.ClashRow.parts (g.met.R.ClashRow.laws rows) (held c.args.self.now.rows) _ _ _ _ c.requires.first c.requires.second c.if-x-y.false
