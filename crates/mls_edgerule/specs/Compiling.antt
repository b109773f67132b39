-- The edge rules that rule lines represent (Taylor and Ousterhout 1984: width and spacing as edge rules). The table is this project's own.
use Rattle.std.specs.Prelude.{ℕ, ◌+◌, nat_le, if◌then◌else◌, Option, Some, None, Result, Ok, Err, List, [], ◌∷◌}
use Rattle.std.specs.Option.{option_and_then, option_map, unwrap_or}
use Rattle.mls_tech.specs.Readings.{Tech}
use Rattle.mls_kinds.specs.KindSets.{intersection, difference}
use Rattle.mls_tech.specs.declared.rule.Adjacency.TheVariants.{TouchingOk, TouchingIllegal}
use Rattle.mls_tech.specs.declared.rule.Edge.{Edge as EdgeWords}
use Rattle.mls_tech.specs.declared.rule.Rule.{Rule}
use Rattle.mls_tech.specs.declared.rule.Rule.TheVariants.{Width, Spacing, Edge, Edge4Way}
use Rattle.mls_tech.specs.declared.rule_line.RuleLine.{RuleLine}
use Rattle.mls_edgerule.specs.PlaneTypes.{types_on, is_on_plane, plane_of_set, trigger_plane}
use Rattle.mls_edgerule.specs.RuleLists.{rule_limit}
use Rattle.mls_edgerule.specs.declared.directions.Directions.{Directions}
use Rattle.mls_edgerule.specs.declared.directions.Directions.TheVariants.{RightAndUp, Four}
use Rattle.mls_edgerule.specs.declared.edge_rule.EdgeRule.{EdgeRule}
use Rattle.mls_edgerule.specs.declared.fault.RuleFault.{RuleFault}
use Rattle.mls_edgerule.specs.declared.fault.RuleFaultKind.{RuleFaultKind}
use Rattle.mls_edgerule.specs.declared.fault.RuleFaultKind.TheVariants.{Planes, TooManyRules}

-- ---- one rule, on the plane or the planes that were found for it
-- beyond an edge from the first types into others, and beyond a corner of such an edge, only the allowed types lie within d
abbrev pub even_rule : (from others allowed d : ℕ) → Directions → (plane check_plane : ℕ) → EdgeRule
even_rule from others allowed d directions plane check_plane = record {
  types1 = from;
  types2 = others;
  ok_types = allowed;
  corner_types = others;
  distance = d;
  corner_distance = d;
  directions = directions;
  trigger_plane = plane;
  check_plane = check_plane;
}

-- types S are at least d wide: beyond an edge into S lies S, and beyond a corner of such an edge
abbrev pub width_rule : Tech → ℕ → ℕ → ℕ → EdgeRule
width_rule tech set d plane = even_rule (difference (types_on tech plane) set) set set d RightAndUp plane plane

-- types A and B on one plane may touch, and are else at least d apart: beyond an edge from A into neither there is no B
abbrev pub touching_ok_rule : Tech → ℕ → ℕ → ℕ → ℕ → EdgeRule
touching_ok_rule tech a b d plane =
    even_rule a (difference (difference (types_on tech plane) a) b) (difference (types_on tech plane) b) d Four plane plane

-- types A and B may not touch and are at least d apart, on one plane or on two: beyond an edge out of A there is no B
abbrev pub touching_illegal_rule : Tech → ℕ → ℕ → ℕ → ℕ → ℕ → EdgeRule
touching_illegal_rule tech a b d plane check_plane =
    even_rule a (difference (types_on tech plane) a) (difference (types_on tech check_plane) b) d Four plane check_plane

-- as the line states it, without types of other planes, which no square of the plane has
abbrev pub edge_line_rule : Tech → Directions → EdgeWords → ℕ → ℕ → EdgeRule
edge_line_rule tech directions edge plane check_plane = record {
  types1 = intersection edge.types1 (types_on tech plane);
  types2 = intersection edge.types2 (types_on tech plane);
  ok_types = intersection edge.ok_types (types_on tech check_plane);
  corner_types = intersection edge.corner_types (types_on tech plane);
  distance = edge.distance;
  corner_distance = edge.corner_distance;
  directions = directions;
  trigger_plane = plane;
  check_plane = check_plane;
}

-- ---- the edge rule of a line; none where its types don't lie on planes as they must
abbrev pub touching_ok : Tech → ℕ → ℕ → ℕ → ℕ → Option EdgeRule
touching_ok tech a b d plane = if is_on_plane tech b plane then Some (touching_ok_rule tech a b d plane) else None

abbrev pub compiled_edge : Tech → Directions → EdgeWords → Option EdgeRule
compiled_edge tech directions edge =
    option_map (λ plane. edge_line_rule tech directions edge plane (unwrap_or edge.plane plane)) (trigger_plane tech edge.types1 edge.types2)

unfoldable pub rule_of : Tech → Rule → Option EdgeRule
rule_of tech (Width set d) = option_map (width_rule tech set d) (plane_of_set tech set)
rule_of tech (Spacing a b d TouchingOk) = option_and_then (touching_ok tech a b d) (plane_of_set tech a)
rule_of tech (Spacing a b d TouchingIllegal) =
    option_and_then (λ plane. option_map (touching_illegal_rule tech a b d plane) (plane_of_set tech b)) (plane_of_set tech a)
rule_of tech (Edge edge) = compiled_edge tech RightAndUp edge
rule_of tech (Edge4Way edge) = compiled_edge tech Four edge

-- ---- all lines
abbrev pub rule_fault : RuleLine → RuleFaultKind → RuleFault
rule_fault line kind = record { line = line.line; kind = kind }

-- one rule more at the front
abbrev pub rule_before : EdgeRule → Result (List EdgeRule) RuleFault → Result (List EdgeRule) RuleFault
rule_before rule (Ok rules) = Ok (rule ∷ rules)
rule_before rule (Err fault) = Err fault

abbrev pub with_rule : RuleLine → Option EdgeRule → Result (List EdgeRule) RuleFault → Result (List EdgeRule) RuleFault
with_rule line None others = Err (rule_fault line Planes)
with_rule line (Some rule) others = rule_before rule others

-- the rules of the lines from here on, where n lines stand before them, or the first fault
unfoldable pub compiled_after : Tech → ℕ → List RuleLine → Result (List EdgeRule) RuleFault
compiled_after tech n [] = Ok []
compiled_after tech n (line ∷ lines) =
    if nat_le rule_limit n then Err (rule_fault line TooManyRules)
    else with_rule line (rule_of tech line.rule) (compiled_after tech (n + 1) lines)

-- one rule for each line of the technology, in the order of lines
unfoldable pub compiled : Tech → Result (List EdgeRule) RuleFault
compiled tech = compiled_after tech 0 tech.rules
