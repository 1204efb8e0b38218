-- What nodes and markup show at the plain constructors.
use Rattle.std.proofs.Common.{◌≡◌, ℕ, List, ◌++◌, Option, slice_get, refl, ap, ap₂, ◌∙◌}
use Rattle.std.specs.List.{flat_map}
use mathlib.Core.Former.{Count}
use Rattle.ur_values.specs.declared.value.Value.{Value, Row_of-Value, end_of-Value, more_of-Value, Row_of-Node, end_of-Node, more_of-Node, items-the_row-Value, items-the_row-Node, items_hidden-the_row-Node-0, items_hidden-the_row-Value-1}
use Rattle.ur_values.specs.declared.value.Value.TheVariants as v
use Rattle.ur_values.specs.declared.value.Node.{Node}
use Rattle.ur_values.specs.declared.value.Node.TheVariants as n
use Rattle.ur_values.specs.declared.value.Call.{Call}
use Rattle.ur_values.specs.declared.value.Tag.{Tag}
use Rattle.ur_tags.specs.declared.routes.Handlers.{Handlers}
use Rattle.ur_tags.specs.Paths.{argument_path, names_path, path}
use Rattle.ur_tags.specs.Show.{element, link, submit, path_of_row, show_node, show_row, show_nodes, show_markup}

-- ---- rows as lists

path_of_row-items : (m : _) (row : Row_of-Value m) → path_of_row row ≡ flat_map argument_path (items-the_row-Value m row)
path_of_row-items m end_of-Value = refl
path_of_row-items m (more_of-Value x rest) = ap (λ p. argument_path x ++ p) (path_of_row-items _ rest)

show_row-items : (handlers : Handlers) (m : _) (row : Row_of-Node m) → show_row handlers row ≡ show_nodes handlers (items-the_row-Node m row)
show_row-items handlers m end_of-Node = refl
show_row-items handlers m (more_of-Node x rest) = ap (λ b. show_node handlers x ++ b) (show_row-items handlers _ rest)

-- the nodes in a node, and those of markup
abbrev inner_of : Node → (m : Count) × Row_of-Node m
inner_of (n.Element' _ _ row) = (_, row)
inner_of (n.Link' _ _ _ _ row) = (_, row)
inner_of _ = (_, end_of-Node)

abbrev nodes_of : Value → (m : Count) × Row_of-Node m
nodes_of (v.Markup' _ row) = (_, row)
nodes_of _ = (_, end_of-Node)

-- the arguments of a node's call
abbrev args_of : Node → (m : Count) × Row_of-Value m
args_of (n.Link' _ _ row _ _) = (_, row)
args_of (n.Submit' _ _ row _) = (_, row)
args_of _ = (_, end_of-Value)

-- ---- nodes

pub show_node-Element : (handlers : Handlers) (tag : Tag) (nodes : List Node) → show_node handlers (n.Element tag nodes) ≡ element tag (show_nodes handlers nodes)
show_node-Element handlers tag nodes =
    let row = inner_of (n.Element tag nodes) in
    ap (element tag) (show_row-items handlers row.0 row.1 ∙ ap (show_nodes handlers) (items_hidden-the_row-Node-0 nodes))

pub show_node-Link : (handlers : Handlers) (call : Call) (nodes : List Node) → show_node handlers (n.Link call nodes) ≡ link (path handlers call) (show_nodes handlers nodes)
show_node-Link handlers call nodes =
    let row = inner_of (n.Link call nodes) in
    let args = args_of (n.Link call nodes) in
    ap₂ (λ p inner. link (names_path (slice_get handlers.routes call.route) ++ p) inner)
    (path_of_row-items args.0 args.1 ∙ ap (flat_map argument_path) (items_hidden-the_row-Value-1 call.args))
    (show_row-items handlers row.0 row.1 ∙ ap (show_nodes handlers) (items_hidden-the_row-Node-0 nodes))

pub show_node-Submit : (handlers : Handlers) (call : Call) (label : Option (List ℕ)) → show_node handlers (n.Submit call label) ≡ submit (path handlers call) label
show_node-Submit handlers call label =
    let args = args_of (n.Submit call label) in
    ap (λ p. submit (names_path (slice_get handlers.routes call.route) ++ p) label)
    (path_of_row-items args.0 args.1 ∙ ap (flat_map argument_path) (items_hidden-the_row-Value-1 call.args))

pub show_markup-Markup : (handlers : Handlers) (nodes : List Node) → show_markup handlers (v.Markup nodes) ≡ show_nodes handlers nodes
show_markup-Markup handlers nodes =
    let row = nodes_of (v.Markup nodes) in
    show_row-items handlers row.0 row.1 ∙ ap (show_nodes handlers) (items_hidden-the_row-Node-0 nodes)

pub ruleset shown = (show_node-Element, show_node-Link, show_node-Submit, show_markup-Markup)
