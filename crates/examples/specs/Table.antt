use Rattle.std.specs.Prelude.{List, [], ◌∷◌}
use Rattle.std.specs.List.{AllByRecursion}
use Rattle.indexes.specs.declared.components.ComponentRow.{ComponentRow}
use Rattle.examples.specs.Resolving.{Resolving, Resolves, no_lawful_set, gives}
use Rattle.examples.specs.Rows.{offering, needing, clashing}

-- no components: the empty set is lawful, and moves nothing
abbrev pub no_components : Resolving
no_components = record { components = []; needs = []; pairs = []; pins = []; outcome = gives [] 0 }

-- without a pin the newest release is taken
abbrev pub no_pin : Resolving
no_pin = record { components = offering 3 ∷ []; needs = []; pairs = []; pins = 255 ∷ []; outcome = gives (2 ∷ []) 0 }

-- a component without releases has none to take
abbrev pub no_releases : Resolving
no_releases = record { components = offering 0 ∷ []; needs = []; pairs = []; pins = 255 ∷ []; outcome = no_lawful_set }

abbrev three_of_three : List ComponentRow
three_of_three = offering 3 ∷ offering 3 ∷ offering 3 ∷ []

-- component 1 below component 0, component 0 equal to component 2, component 1 unlike component 2; one pin moves.
-- A range cannot leave out a middle release alone: the last needs row parts 2:1 from 1:2 too, which no lawful set joins
abbrev pub three_relations : Resolving
three_relations = record {
  components = three_of_three;
  needs =
      needing 0 0 1 1 0 ∷ needing 0 1 1 0 0 ∷ needing 0 2 1 0 1 ∷
      needing 0 0 2 0 0 ∷ needing 0 1 2 1 1 ∷ needing 0 2 2 2 2 ∷
      needing 1 0 2 1 2 ∷ needing 1 2 2 0 1 ∷ needing 2 1 1 0 0 ∷ [];
  pairs =
      clashing 0 0 1 0 ∷ clashing 0 0 1 1 ∷ clashing 0 0 1 2 ∷ clashing 0 1 1 1 ∷ clashing 0 1 1 2 ∷ clashing 0 2 1 2 ∷
      clashing 0 0 2 1 ∷ clashing 0 0 2 2 ∷ clashing 0 1 2 0 ∷ clashing 0 1 2 2 ∷ clashing 0 2 2 0 ∷ clashing 0 2 2 1 ∷
      clashing 1 0 2 0 ∷ clashing 1 1 2 1 ∷ clashing 1 2 2 2 ∷ [];
  pins = 0 ∷ 1 ∷ 2 ∷ [];
  outcome = gives (2 ∷ 1 ∷ 2 ∷ []) 1;
}

abbrev three_of_two : List ComponentRow
three_of_two = offering 2 ∷ offering 2 ∷ offering 2 ∷ []

-- 0:0 clashes with 1:0 and with 2:0: moving one pin is enough, where going by components would keep 0:0 and move two
abbrev pub one_for_two : Resolving
one_for_two = record {
  components = three_of_two;
  needs = needing 0 0 1 1 1 ∷ needing 0 0 2 1 1 ∷ [];
  pairs = clashing 0 0 1 0 ∷ clashing 0 0 2 0 ∷ [];
  pins = 0 ∷ 0 ∷ 0 ∷ [];
  outcome = gives (1 ∷ 0 ∷ 0 ∷ []) 1;
}

-- 2:0 clashes with 0:0 and 2:1 clashes with 1:0: one pin has to move, though no two pins clash,
-- and of the sets that move one the first keeps the pin of component 0
abbrev pub no_pins_clash : Resolving
no_pins_clash = record {
  components = three_of_two;
  needs = needing 2 0 0 1 1 ∷ needing 2 1 1 1 1 ∷ [];
  pairs = clashing 2 0 0 0 ∷ clashing 2 1 1 0 ∷ [];
  pins = 0 ∷ 0 ∷ 255 ∷ [];
  outcome = gives (0 ∷ 1 ∷ 1 ∷ []) 1;
}

abbrev pub resolving_examples : List Resolving
resolving_examples = no_components ∷ no_pin ∷ no_releases ∷ three_relations ∷ one_for_two ∷ no_pins_clash ∷ []

-- every example comes to what its row says
abbrev pub WorkedExamples : Type 0
WorkedExamples = AllByRecursion Resolves resolving_examples
