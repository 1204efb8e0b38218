-- The nodes of parts, one after the other.
use Rattle.std.proofs.Common.{◌≡◌, ◌≢◌, List, [], ◌∷◌, ◌++◌, Option, Some, None, refl, sym, ap, ◌∙◌, append_assoc}
use Rattle.std.proofs.lemmas.List.{append-nil}
use Rattle.ur_values.specs.declared.value.Value.{Value}
use Rattle.ur_values.specs.declared.value.Value.TheVariants as v
use Rattle.ur_values.specs.declared.value.Node.{Node}
use Rattle.ur_terms.specs.Values.{as_nodes, all_nodes, append_option}
use Rattle.ur_machine_operations.proofs.Opened.{nodes-Markup}

pub nodes_start : (o : Option (List Node)) → append_option (Some []) o ≡ o
nodes_start None = refl
nodes_start (Some xs) = refl

three : (a b c : Option (List Node)) → append_option a (append_option b c) ≡ append_option (append_option a b) c
three None b c = refl
three (Some xs) None c = refl
three (Some xs) (Some ys) None = refl
three (Some xs) (Some ys) (Some zs) = ap Some (sym (append_assoc xs ys zs))

-- a part's nodes are put behind those that are there
pub nodes_step : (nodes more : List Node) (part : Value) (rest : List Value) (all : Option (List Node)) → append_option (Some nodes) (all_nodes (part ∷ rest)) ≡ all → part ≡ v.Markup more
    → append_option (Some (nodes ++ more)) (all_nodes rest) ≡ all
nodes_step nodes more part rest all h e =
    sym (three (Some nodes) (Some more) (all_nodes rest))
    ∙ ap (λ o. append_option (Some nodes) (append_option o (all_nodes rest))) (sym (ap as_nodes e ∙ nodes-Markup more)) ∙ h

nothing_there : (xs : List Node) (o : Option (List Node)) → append_option (Some xs) (append_option None o) ≡ None
nothing_there xs o = refl

pub nodes_there : (nodes : List Node) (part : Value) (rest : List Value) (all : Option (List Node)) → append_option (Some nodes) (all_nodes (part ∷ rest)) ≡ all → all ≢ None → as_nodes part ≢ None
nodes_there nodes part rest all h there e =
    there (sym h ∙ ap (λ o. append_option (Some nodes) (append_option o (all_nodes rest))) e ∙ nothing_there nodes (all_nodes rest))

no_more : (o : Option (List Node)) → append_option o (Some []) ≡ append_option (Some []) o
no_more None = refl
no_more (Some xs) = ap Some (append-nil xs)

last_nodes : (parts : List Value) (part : Value) → all_nodes (parts ++ part ∷ []) ≡ append_option (all_nodes parts) (as_nodes part)
last_nodes [] part = no_more (as_nodes part)
last_nodes (x ∷ parts) part = ap (append_option (as_nodes x)) (last_nodes parts part) ∙ three (as_nodes x) (all_nodes parts) (as_nodes part)

-- the nodes of one part more
pub nodes_more : (parts : List Value) (part : Value) (nodes more : List Node) → all_nodes parts ≡ Some nodes → part ≡ v.Markup more → all_nodes (parts ++ part ∷ []) ≡ Some (nodes ++ more)
nodes_more parts part nodes more h e =
    last_nodes parts part ∙ ap (λ o. append_option o (as_nodes part)) h ∙ ap (append_option (Some nodes)) (ap as_nodes e ∙ nodes-Markup more)
