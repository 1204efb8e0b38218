use Rattle.std.proofs.Common.{sym, ap, subst, ◌∙◌}
use Rattle.std.specs.Option.{option_copied}
use Rattle.ur_sqltype.specs.Lists.{all_of}
use Rattle.ur_check_scopes.proofs.Exits.{ok-along, refused-along}
use Rattle.ur_typed.specs.Declaring.{entry_out, entries_out}
use Rattle.ur_typed.specs.DeclFaults.{EntriesHaveFault}
use Rattle.ur_check_heads.proofs.signature.entries.Goals as goal

pub returns-in-Some-clause-ok : goal.returns-in-Some-clause-ok
returns-in-Some-clause-ok c =
    ok-along c.signed.result (λ list h home z s. ap (λ o. entries_out 65536 z home (option_copied o)) c.in-Some.is ∙ ap (all_of (entry_out 65536 z)) (sym c.as_slice.ensures) ∙ h home z s) c.signed.ensures.ok

pub returns-in-Some-clause-refused : goal.returns-in-Some-clause-refused
returns-in-Some-clause-refused c =
    refused-along c.signed.result (λ r h home z s. (c.in-Some.s.now, ap option_copied c.in-Some.is, subst (EntriesHaveFault 65536 z r) c.as_slice.ensures (h home z s))) c.signed.ensures.refused
