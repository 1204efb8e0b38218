-- The targets of links and actions, and what breaks their rules.
use Rattle.std.specs.Prelude.{◌≡◌, ℕ, Bool, true, false, List, [], codes, Option, Some, None}
use Rattle.ur_rows.specs.declared.normal.NormalType.{NormalType}
use Rattle.ur_rows.specs.declared.normal.NormalType.TheVariants as ty
use Rattle.ur_tree.specs.Heads.{Declared}
use Rattle.ur_tree.specs.Typing.{are_linkable}
use Rattle.ur_typed_rules.specs.Faults.{Fault, not_so}
use Rattle.ur_typed.specs.Faults.{no_link_target, no_action_target, not_linkable}
use Rattle.ur_typed.specs.Markups.{page_params, without_last}
use Rattle.ur_check_forms.specs.declared.targets.Target.{Target}

abbrev pub is_whole_page : NormalType → Bool
is_whole_page ty.Page = true
is_whole_page _ = false

-- what a link may call: a page function, all of whose parameters can stand in a path
pub record IsLink (d : Declared) (t : Target) : Type 0 where
  pub params : page_params d t.number ≡ Some t.args
  pub linkable : are_linkable t.args ≡ true

-- what an action may call: the same but for the last parameter, which is the record of the form's fields
pub record IsAction (d : Declared) (t : Target) : Type 0 where
  pub all : List NormalType
  pub wanted : NormalType
  pub params : page_params d t.number ≡ Some all
  pub front : without_last all ≡ Some (t.args, wanted)
  pub is_wanted : t.wanted ≡ Some wanted
  pub linkable : are_linkable t.args ≡ true

-- the function with that number is no page function
pub data IsNoPage (d : Declared) (f : ℕ) (word : List ℕ) : Fault → Type 0 where
  no_page_there : page_params d f ≡ None → IsNoPage d f word (not_so word (codes "a call of a page function"))

-- what is called may not be the target of a link
pub data BreaksLink (d : Declared) : Option ℕ → Fault → Type 0 where
  links_nothing : BreaksLink d None no_link_target
  links_no_page : {f : ℕ} → page_params d f ≡ None → BreaksLink d (Some f) no_link_target
  links_further : {f : ℕ} {ts : List NormalType} → page_params d f ≡ Some ts → are_linkable ts ≡ false → BreaksLink d (Some f) not_linkable

-- what is called may not be the target of an action
pub data BreaksAction (d : Declared) : Option ℕ → Fault → Type 0 where
  acts_on_nothing : BreaksAction d None no_action_target
  acts_on_no_page : {f : ℕ} → page_params d f ≡ None → BreaksAction d (Some f) no_action_target
  takes_no_form : {f : ℕ} → page_params d f ≡ Some [] → BreaksAction d (Some f) no_action_target
  acts_further : {f : ℕ} {ps : List NormalType} {ts : List NormalType × NormalType} → page_params d f ≡ Some ps → without_last ps ≡ Some ts → are_linkable ts.0 ≡ false → BreaksAction d (Some f) not_linkable

-- a target with this number, these arguments and this record
pub record Takes (t : Target) (n : ℕ) (ts : List NormalType) (u : NormalType) : Type 0 where
  pub number : t.number ≡ n
  pub args : t.args ≡ ts
  pub wanted : t.wanted ≡ Some u
  pub linkable : are_linkable ts ≡ true
