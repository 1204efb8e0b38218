-- What an expression has still to be given.
use Rattle.std.proofs.Common.{◌≡◌, refl, ap, sym, ◌∙◌, List, Option}
use Rattle.std.specs.Option.{option_map}
use Rattle.ur_syntax.specs.declared.kind.Kind.{Kind}
use Rattle.ur_syntax.specs.declared.con.Con.{Con}
use Rattle.ur_syntax.specs.declared.exp.Exp.{Exp}
use Rattle.ur_syntax.specs.declared.exp.ExpForm.{ExpForm}
use Rattle.ur_syntax.specs.declared.exp.ExpForm.TheVariants as e
use Rattle.ur_syntax.specs.declared.exp.ExpForm.TheBlock as B
use Rattle.ur_kinds.specs.declared.state.State.{State}
use Rattle.ur_kinds.specs.KindedFaults.{left_of, behind_first}

left-made : (s : State) (f : Exp) (c : Con) → left_of s (e.ConApp f c) ≡ option_map behind_first (left_of s f.form)
unfolding B.hidden-the_row-Exp-0 denote.Hole.Carrier.hidden
left-made s f c = refl

pub left-applied : {x : ExpForm} {f g : Exp} {c : Con} {w : Option (List Kind)} (s : State) → x ≡ e.ConApp g c → f ≡ g → w ≡ option_map behind_first (left_of s f.form) → w ≡ left_of s x
left-applied {f = f} {c = c} s h i k = k ∙ sym (ap (left_of s) (h ∙ ap (λ z. e.ConApp z c) (sym i)) ∙ left-made s f c)
