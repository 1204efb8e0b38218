-- Why a function may not be an entry.
use Rattle.std.specs.Prelude.{◌≡◌, ◌&&◌, ℕ, nat_le, nat_eq, Bool, false, codes}
use Rattle.ur_syntax.specs.declared.con.Con.{Con}
use Rattle.ur_rows.specs.Nodes.{nodes, most_nodes}
use Rattle.ur_tree.specs.Heads.{Head, function_type}
use Rattle.ur_tree.specs.Typing.{are_linkable, types_of}
use Rattle.ur_typed_rules.specs.Tests.{same_type, is_page}
use Rattle.ur_typed_rules.specs.Faults.{Fault, not_so, too_large, types_differ}
use Rattle.ur_typed.specs.Declaring.{FunctionHead, Sofar, datatype_names, is_entry}
use Rattle.ur_typed.specs.DeclFaults.{form_of, type_of}

-- a function of that module may be an entry
abbrev pub is_own : ℕ → FunctionHead → Bool
is_own main f = nat_eq f.«module» main && is_entry f.head

-- it is of another type than the written one, which may be too large
pub data OtherType (z : Sofar) (c : Con) (h : Head) : Fault → Type 0 where
  is_large : nat_le (nodes (form_of z c)) most_nodes ≡ false → OtherType z c h too_large
  differs : same_type (function_type h) (type_of z c) ≡ false → OtherType z c h (types_differ (datatype_names z) (function_type h) (type_of z c))

-- it is no page function, or a parameter may not stand in a path
pub data NoEntry (h : Head) : Fault → Type 0 where
  no_page : is_page h ≡ false → NoEntry h (not_so (codes "an entry") (codes "a page function"))
  no_link : are_linkable (types_of h.params) ≡ false → NoEntry h (not_so (codes "a parameter") (codes "int, string, bool or unit"))

pub data Unfit (z : Sofar) (c : Con) (h : Head) : Fault → Type 0 where
  by_type : {f : Fault} → OtherType z c h f → Unfit z c h f
  by_form : {f : Fault} → NoEntry h f → Unfit z c h f
