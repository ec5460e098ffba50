use Rattle.std.proofs.Common.{◌≡◌, ℕ, ◌<◌, true, false, ◌≢◌, List, subst, arith}
use Rattle.std.proofs.lemmas.Bool.{eqb-true, eq-eqb, and_parts, and_from, false_from_ne_true}
use Rattle.masks.specs.Masks.{Has, Empty, Without, Lowest}
use Rattle.masks.proofs.Words.{without_was, without_stays}
use Rattle.bounds.specs.Clashes.{Clash}
use Rattle.bounds.specs.Pairing.{members, rivals, partner}
use Rattle.bounds.specs.Lows.{lowest_at, lowest_none}
use Rattle.bounds.specs.Sets.{clashes_decides, without_parts, without_from}

-- rest has every pin that may still be a's partner, and others of left only
pub record Looking (rows : List ℕ) (left a rest : ℕ) : Type 0 where
  pub others : (c : ℕ) → Has rest c → Has left c × (c ≢ a)
  pub every : (c : ℕ) → rivals rows (members left) a c ≡ true → Has rest c

rival_parts : (rows : List ℕ) (left a c : ℕ) → rivals rows (members left) a c ≡ true → Has left c × (c ≢ a) × Clash rows a c
rival_parts rows left a c t =
    let p = and_parts _ _ t in
    let q = without_parts (members left) a c p.0 in
    (eqb-true _ 1 q.0, q.1, (clashes_decides rows a c).0 p.1)

pub looking_all : (rows : List ℕ) (left a rest : ℕ) → Without left a rest → Looking rows left a rest
looking_all rows left a rest h = record {
  others = λ c o. (without_was left a rest h c o, λ e. h.gone (subst (Has rest) e o));
  every = λ c t. let p = rival_parts rows left a c t in without_stays left a rest h c p.1 p.0;
}

pub looking_on : (rows : List ℕ) (left a rest b next : ℕ) → Looking rows left a rest → (Clash rows a b → ⊥) → Without rest b next → Looking rows left a next
looking_on rows left a rest b next h free w = record {
  others = λ c o. h.others c (without_was rest b next w c o);
  every = λ c t. without_stays rest b next w c (λ e. free (subst (Clash rows a) e (rival_parts rows left a c t).2)) (h.every c t);
}

pub looking_found : (rows : List ℕ) (left a rest b : ℕ) → Looking rows left a rest → Lowest 64 rest b → Clash rows a b → (b < 64) × (partner rows (members left) a ≡ b)
looking_found rows left a rest b h low clash =
    (low.fits, lowest_at (rivals rows (members left) a) 64 b low.fits rival under) where
      rival : rivals rows (members left) a b ≡ true
      rival =
          let o = h.others b low.has in
          and_from _ _ (without_from (members left) a b (eq-eqb _ 1 o.0) o.1) ((clashes_decides rows a b).1 clash)

      under : (c : ℕ) → c < b → rivals rows (members left) a c ≡ false
      under c l = false_from_ne_true _ (λ t. absurd (omega (arith, low.bottom c (h.every c t))))

pub looking_none : (rows : List ℕ) (left a rest : ℕ) → Looking rows left a rest → Empty rest → partner rows (members left) a ≡ 64
looking_none rows left a rest h none =
    lowest_none (rivals rows (members left) a) 64 (λ c l. false_from_ne_true _ (λ t. none c (h.every c t)))

-- the loop of the search for a partner
pub ruleset looks = (looking_all, looking_on, looking_found, looking_none)
