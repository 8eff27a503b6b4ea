-- `==` of derivations says whether they have the same lines and the same hints.
use Rattle.std.proofs.Common.{rules, ◌≡◌, Bool, ◌&&◌, ◌==◌}
use Rattle.std.specs.Bool.{Decides}
use Rattle.std.specs.Cmp.{unsigned_Decides}
use Rattle.std.specs.Cmp.Lexicographic.{pointwise_decides}
use Rattle.scm_orders.specs.declared.place.Place.{Place}
use Rattle.scm_orders.specs.declared.derivation.Fact.{Fact}
use Rattle.scm_orders.specs.declared.derivation.Fact.TheVariants.{Before, Sees, SeesFirst, Hidden, Unseen, UnseenFirst}
use Rattle.scm_orders.specs.declared.derivation.Rule.{Rule}
use Rattle.scm_orders.specs.declared.derivation.Rule.TheVariants.{Joined, Hidden as HiddenBy, Source, AfterAll, BeforeAll, AfterSource, Assumed, Lemma}
use Rattle.scm_orders.specs.declared.derivation.Line.{Line}
use Rattle.scm_orders.specs.declared.derivation.Derivation.{Derivation}
use Rattle.scm_orders.specs.contracts.place.PlacePartialEq.TheImpl as places
use Rattle.scm_orders.specs.contracts.derivation.FactPartialEq.TheImpl as facts
use Rattle.scm_orders.specs.contracts.derivation.RulePartialEq.TheImpl as rules_of
use Rattle.scm_orders.specs.contracts.derivation.LinePartialEq.TheImpl as lines
use Rattle.scm_orders.specs.contracts.derivation.DerivationPartialEq.TheImpl as derivations

place_eq-Decides : (a b : Place) → Decides (places.ghosts.eq a b) (a ≡ b)
place_eq-Decides a b = search rules

fact_eq-Decides : (a b : Fact) → Decides (facts.ghosts.eq a b) (a ≡ b)
fact_eq-Decides (Before from to) b = search (rules, place_eq-Decides)
fact_eq-Decides (Sees write read) b = search (rules, place_eq-Decides)
fact_eq-Decides (SeesFirst read) b = search (rules, place_eq-Decides)
fact_eq-Decides (Hidden write read) b = search (rules, place_eq-Decides)
fact_eq-Decides (Unseen write read) b = search (rules, place_eq-Decides)
fact_eq-Decides (UnseenFirst read) b = search (rules, place_eq-Decides)

rule_eq-Decides : (a b : Rule) → Decides (rules_of.ghosts.eq a b) (a ≡ b)
rule_eq-Decides Joined b = search rules
rule_eq-Decides (HiddenBy by) b = search (rules, place_eq-Decides)
rule_eq-Decides Source b = search rules
rule_eq-Decides AfterAll b = search rules
rule_eq-Decides BeforeAll b = search rules
rule_eq-Decides AfterSource b = search rules
rule_eq-Decides Assumed b = search rules
rule_eq-Decides (Lemma end) b = search rules

line_Decides : (fact rule block : Bool) (a b : Line) → Decides fact (a.fact ≡ b.fact) → Decides rule (a.rule ≡ b.rule) → Decides block (a.block ≡ b.block)
    → Decides (fact && (rule && (a.first == b.first && (a.count == b.count && block)))) (a ≡ b)
line_Decides fact rule block a b facts_are rules_are blocks_are = search rules

line_eq-Decides : (a b : Line) → Decides (lines.ghosts.eq a b) (a ≡ b)
line_eq-Decides a b = line_Decides _ _ _ a b (fact_eq-Decides a.fact b.fact) (rule_eq-Decides a.rule b.rule) (search rules)

pub derivation_eq-Decides : (a b : Derivation) → Decides (derivations.ghosts.eq a b) ((a.lines.items ≡ b.lines.items) × (a.hints.items ≡ b.hints.items))
derivation_eq-Decides a b = search (rules, pointwise_decides line_eq-Decides a.lines.items b.lines.items, pointwise_decides unsigned_Decides a.hints.items b.hints.items)
