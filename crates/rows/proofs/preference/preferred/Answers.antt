use Rattle.std.proofs.Common.{refl, inl, inr, arith}
use Rattle.std.proofs.lemmas.Bool.{cases_eq}
use Rattle.masks.proofs.Bits.{has_below}
use Rattle.rows.proofs.preference.preferred.Goals as goal

-- by hand: the check does not build the record of what a component prefers

pub returns-then-has : goal.returns-then-has
returns-then-has c =
    let o = c.has.ensures.0 c.if-has.true in
    record {
      fits = has_below 32 c.args.mask c.args.pin (omega arith) o;
      has = o;
      first = λ j h. elim (cases_eq c.args.pin j) [ inl e ↦ inl e | inr ne ↦ inr (ne, inl refl) ];
    }
