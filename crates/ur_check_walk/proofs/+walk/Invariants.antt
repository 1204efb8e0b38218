use Rattle.std.proofs.Common.{length, ◌+◌, ◌*◌, drop}
use Rattle.std.specs.Option.{option_copied}
use Rattle.ur_check_scopes.specs.Views.{mode_of}
use Rattle.ur_check_walk.specs.Applying.{forms_in}
use Rattle.ur_check_walk.specs.Leading.{Leads}
use Rattle.ur_check_walk.proofs.Applying as applying
use Rattle.ur_check_walk.proofs.Records.{AllLead}
use Rattle.ur_check_walk.proofs.Quoted as quoted
use Rattle.ur_check_walk.proofs.+walk.Given as goal
use Rattle.ur_check_walk.proofs.Branching.{Walked}
use Rattle.ur_xmltype.specs.Views.{place_in}
use Rattle.ur_check_walk.proofs.Parting.{Parted}

abbrev pub decreases-walk::typed : goal.decreases-walk::typed
decreases-walk::typed l = 60 * l.around.now.levels + 4

abbrev pub decreases-walk::operand : goal.decreases-walk::operand
decreases-walk::operand l = 60 * l.around.now.levels

abbrev pub decreases-chain::chain : goal.decreases-chain::chain
decreases-chain::chain l = 60 * l.around.now.levels + 3

abbrev pub decreases-chain::turn : goal.decreases-chain::turn
decreases-chain::turn l = 60 * l.around.now.levels + 2

abbrev pub decreases-chain::chosen : goal.decreases-chain::chosen
decreases-chain::chosen l = 60 * l.around.now.levels + 1

abbrev pub invariant-chain::chain-loop-turn : goal.invariant-chain::chain-loop-turn
invariant-chain::chain-loop-turn l = Leads l.around l.begun l.initial.sites l.e.form (mode_of (option_copied l.wanted)) l.sites l.next.e.now.form (mode_of l.next.wanted)

abbrev pub decreases-walk::walk : goal.decreases-walk::walk
decreases-walk::walk l = 60 * l.around.now.levels + 54

abbrev pub decreases-walk::walk_further : goal.decreases-walk::walk_further
decreases-walk::walk_further l = 60 * l.around.now.levels + 53

abbrev pub decreases-walk::walk_statement : goal.decreases-walk::walk_statement
decreases-walk::walk_statement l = 60 * l.around.now.levels + 52

abbrev pub decreases-walk::denied : goal.decreases-walk::denied
decreases-walk::denied l = 60 * l.around.now.levels + 5

abbrev pub decreases-walk::shown : goal.decreases-walk::shown
decreases-walk::shown l = 60 * l.around.now.levels + 5

abbrev pub decreases-walk::present : goal.decreases-walk::present
decreases-walk::present l = 60 * l.around.now.levels + 5

abbrev pub decreases-walk::returned : goal.decreases-walk::returned
decreases-walk::returned l = 60 * l.around.now.levels + 5

abbrev pub decreases-walk::failed : goal.decreases-walk::failed
decreases-walk::failed l = 60 * l.around.now.levels + 5

abbrev pub decreases-fields::record : goal.decreases-fields::record
decreases-fields::record l = 60 * l.around.now.levels + 7

abbrev pub decreases-fields::fields_of : goal.decreases-fields::fields_of
decreases-fields::fields_of l = 60 * l.around.now.levels + 6

abbrev pub decreases-fields::one_more : goal.decreases-fields::one_more
decreases-fields::one_more l = 60 * l.around.now.levels + 5

abbrev pub invariant-fields::fields_of-loop-first : goal.invariant-fields::fields_of-loop-first
invariant-fields::fields_of-loop-first l = AllLead l.around (mode_of (option_copied l.wanted)) l.written l.initial.sites l.left l.sites l.fields

abbrev pub decreases-fields::fields_of-loop-first : goal.decreases-fields::fields_of-loop-first
decreases-fields::fields_of-loop-first l = length l.left

abbrev pub decreases-applied::application : goal.decreases-applied::application
decreases-applied::application l = 60 * l.around.now.levels + 10

abbrev pub decreases-applied::at_head : goal.decreases-applied::at_head
decreases-applied::at_head l = 60 * l.around.now.levels + 8

abbrev pub decreases-applied::arguments : goal.decreases-applied::arguments
decreases-applied::arguments l = 60 * l.around.now.levels + 5

abbrev pub decreases-applied::named : goal.decreases-applied::named
decreases-applied::named l = 60 * l.around.now.levels + 7

abbrev pub decreases-applied::call : goal.decreases-applied::call
decreases-applied::call l = 60 * l.around.now.levels + 6

abbrev pub decreases-applied::build : goal.decreases-applied::build
decreases-applied::build l = 60 * l.around.now.levels + 7

abbrev pub decreases-applied::built : goal.decreases-applied::built
decreases-applied::built l = 60 * l.around.now.levels + 6

abbrev pub decreases-applied::other : goal.decreases-applied::other
decreases-applied::other l = 60 * l.around.now.levels + 6

abbrev pub invariant-applied::arguments-loop-e : goal.invariant-applied::arguments-loop-e
invariant-applied::arguments-loop-e l = applying.AllLead l.around (forms_in l.fn.args) l.types l.initial.sites (forms_in l.left) l.wanted l.sites l.done

abbrev pub decreases-applied::arguments-loop-e : goal.decreases-applied::arguments-loop-e
decreases-applied::arguments-loop-e l = length l.left

abbrev pub decreases-walk::sequence : goal.decreases-walk::sequence
decreases-walk::sequence l = 60 * l.around.now.levels + 6

abbrev pub decreases-bound::binding : goal.decreases-bound::binding
decreases-bound::binding l = 60 * l.around.now.levels + 5

abbrev pub decreases-bound::branches : goal.decreases-bound::branches
decreases-bound::branches l = 60 * l.around.now.levels + 7

abbrev pub decreases-bound::all_branches : goal.decreases-bound::all_branches
decreases-bound::all_branches l = 60 * l.around.now.levels + 6

abbrev pub decreases-bound::branch : goal.decreases-bound::branch
decreases-bound::branch l = 60 * l.around.now.levels + 5

abbrev pub decreases-bound::let_in : goal.decreases-bound::let_in
decreases-bound::let_in l = 60 * l.around.now.levels + 7

abbrev pub decreases-bound::val_in : goal.decreases-bound::val_in
decreases-bound::val_in l = 60 * l.around.now.levels + 6

abbrev pub decreases-bound::further : goal.decreases-bound::further
decreases-bound::further l = 60 * l.around.now.levels + 5

abbrev pub decreases-bound::lambda : goal.decreases-bound::lambda
decreases-bound::lambda l = 60 * l.around.now.levels + 5

abbrev pub invariant-bound::all_branches-loop-i : goal.invariant-bound::all_branches-loop-i
invariant-bound::all_branches-loop-i l = Walked l.around l.of l.list (drop l.i l.list) l.initial.sites l.sites (mode_of (option_copied l.wanted)) l.cases.of l.cases.list

abbrev pub decreases-embedded::set_cookie : goal.decreases-embedded::set_cookie
decreases-embedded::set_cookie l = 60 * l.around.now.levels + 5

abbrev pub decreases-folded::fold : goal.decreases-folded::fold
decreases-folded::fold l = 60 * l.around.now.levels + 7

abbrev pub decreases-folded::step_at : goal.decreases-folded::step_at
decreases-folded::step_at l = 60 * l.around.now.levels + 6

abbrev pub decreases-folded::step_in : goal.decreases-folded::step_in
decreases-folded::step_in l = 60 * l.around.now.levels + 5

abbrev pub decreases-embedded::all_antiquotes : goal.decreases-embedded::all_antiquotes
decreases-embedded::all_antiquotes l = 60 * l.around.now.levels + 5

abbrev pub decreases-embedded::change : goal.decreases-embedded::change
decreases-embedded::change l = 60 * l.around.now.levels + 6

abbrev pub decreases-embedded::query : goal.decreases-embedded::query
decreases-embedded::query l = 60 * l.around.now.levels + 6

abbrev pub decreases-embedded::each : goal.decreases-embedded::each
decreases-embedded::each l = 60 * l.around.now.levels + 6

abbrev pub decreases-embedded::rows : goal.decreases-embedded::rows
decreases-embedded::rows l = 60 * l.around.now.levels + 5

abbrev pub invariant-embedded::all_antiquotes-loop-i : goal.invariant-embedded::all_antiquotes-loop-i
invariant-embedded::all_antiquotes-loop-i l = quoted.AllLead l.around l.args l.initial.sites (drop l.i l.args) l.sites l.list

abbrev pub decreases-markup::literal : goal.decreases-markup::literal
decreases-markup::literal l = 60 * l.around.now.levels + 25

abbrev pub decreases-markup::parts_out : goal.decreases-markup::parts_out
decreases-markup::parts_out l = 60 * l.around.now.levels + 24

abbrev pub decreases-markup::part_out : goal.decreases-markup::part_out
decreases-markup::part_out l = 60 * l.around.now.levels + 23

abbrev pub decreases-markup::element : goal.decreases-markup::element
decreases-markup::element l = 60 * l.around.now.levels + 35

abbrev pub decreases-markup::node_out : goal.decreases-markup::node_out
decreases-markup::node_out l = 60 * l.around.now.levels + 34

abbrev pub decreases-markup::held : goal.decreases-markup::held
decreases-markup::held l = 60 * l.around.now.levels + 29

abbrev pub decreases-markup::form : goal.decreases-markup::form
decreases-markup::form l = 60 * l.around.now.levels + 29

abbrev pub decreases-splices::shown : goal.decreases-splices::shown
decreases-splices::shown l = 60 * l.around.now.levels + 5

abbrev pub decreases-splices::spliced : goal.decreases-splices::spliced
decreases-splices::spliced l = 60 * l.around.now.levels + 7

abbrev pub decreases-splices::splice_asked : goal.decreases-splices::splice_asked
decreases-splices::splice_asked l = 60 * l.around.now.levels + 6

abbrev pub decreases-splices::found_splice : goal.decreases-splices::found_splice
decreases-splices::found_splice l = 60 * l.around.now.levels + 5

abbrev pub decreases-splices::typed_splice : goal.decreases-splices::typed_splice
decreases-splices::typed_splice l = 60 * l.around.now.levels + 5

abbrev pub invariant-markup::parts_out-loop-i : goal.invariant-markup::parts_out-loop-i
invariant-markup::parts_out-loop-i l = Parted l.around l.within (place_in l.place) l.parts (drop l.i l.parts) l.initial.sites l.sites l.marked

abbrev pub decreases-targets::target_at : goal.decreases-targets::target_at
decreases-targets::target_at l = 60 * l.around.now.levels + 9

abbrev pub decreases-targets::target_named : goal.decreases-targets::target_named
decreases-targets::target_named l = 60 * l.around.now.levels + 8

abbrev pub decreases-targets::value_given : goal.decreases-targets::value_given
decreases-targets::value_given l = 60 * l.around.now.levels + 7

abbrev pub decreases-targets::value_at : goal.decreases-targets::value_at
decreases-targets::value_at l = 60 * l.around.now.levels + 8

abbrev pub decreases-targets::link : goal.decreases-targets::link
decreases-targets::link l = 60 * l.around.now.levels + 29

abbrev pub decreases-targets::input : goal.decreases-targets::input
decreases-targets::input l = 60 * l.around.now.levels + 29

abbrev pub decreases-targets::submit : goal.decreases-targets::submit
decreases-targets::submit l = 60 * l.around.now.levels + 29
