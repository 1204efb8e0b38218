use Rattle.std.proofs.Common.{subst}
use Rattle.ur_check_scopes.specs.Views.{Refuses}
use Rattle.ur_check_scopes.proofs.Exits.{refused-along}
use Rattle.ur_typed.specs.Declaring.{datatype_names, with_datatype}
use Rattle.ur_typed.specs.DeclFaults.{BreaksVariants}
use Rattle.ur_check_heads.proofs.datatypes.datatype_in.Goals as goal

pub returns-clause-refused : goal.returns-clause-refused
returns-clause-refused c =
    refused-along c.variants_in.result
    (λ r h home z s.
    subst (λ n. Refuses (datatype_names (with_datatype home c.args.name.now z)) (BreaksVariants 65536 n c.args.variants.now (with_datatype home c.args.name.now z)) r) (c.in_ok-datatype.ensures.number home z s)
    (h home (with_datatype home c.args.name.now z) (c.in_ok-datatype.ensures.ok home z s)))
    c.variants_in.ensures.refused
