use Rattle.std.proofs.Common.{refl}
use Rattle.ur_parse_rules.proofs.Steps.{passed}
use Rattle.ur_parse_rules.specs.Quoted.{mapped}
use Rattle.ur_parse_rules.specs.Statements.{on_condition}
use Rattle.ur_parse_embed_code.proofs.Numbering.{numbered_mapped}
use Rattle.ur_parse_embed.specs.Items.{no_item, no_on, no_condition}
use Rattle.ur_parse_embed.proofs.from.joined.Goals as goal

pub returns-in_err-item-clause-refused : goal.returns-in_err-item-clause-refused
returns-in_err-item-clause-refused c = passed _ _ c.from_residual.ensures.1 c.in_err-item.ensures.refused (λ r h. no_item (h _))

pub returns-in_err-begin-clause-refused : goal.returns-in_err-begin-clause-refused
returns-in_err-begin-clause-refused c = passed _ _ c.from_residual-in_err-begin.ensures.1 c.in_err-begin.ensures.refused (λ r h. no_on _ _ (c.in_ok-item.ensures.found _) h)

pub returns-in_err-condition-clause-refused : goal.returns-in_err-condition-clause-refused
returns-in_err-condition-clause-refused c = passed _ _ c.from_residual-in_err-condition.ensures.1 c.in_err-condition.ensures.refused (λ r h. no_condition _ _ _ (c.in_ok-item.ensures.found _) c.in_ok-begin.ensures.found h)

pub returns-clause-found : goal.returns-clause-found
returns-clause-found c = let m = c.in_ok-condition.ensures.found in record {
  of = mapped (on_condition c.in_ok-item.item) m.of;
  read = record { middle = c.in_ok-item.behind; begin = _; table = c.in_ok-item.item; condition = m.of; named = c.in_ok-item.ensures.found _; word = c.in_ok-begin.ensures.found; inner = m.read; is = refl };
  made = numbered_mapped (on_condition c.in_ok-item.item) m.made;
}
