use Rattle.std.proofs.Common.{◌∙◌, sym, rules, tests}
use Rattle.std.proofs.lemmas.Iterator.{YieldsList-from_slice}
use Rattle.std.proofs.lemmas.Iterator.Search.{any_from_yields_List}
use Rattle.ur_http.specs.Fields.{has_close}
use Rattle.ur_http.specs.Reading.{field_pair}
use Rattle.ur_http.proofs.Values.{list_any_of}
use Rattle.ur_http.proofs.heads.any_closes.Goals as goal

pub returns : goal.returns
returns c =
    any_from_yields_List (λ f. has_close (field_pair f)) _ _ _ c.any.ensures.ran (YieldsList-from_slice c.args.fields.now c.iter.ensures.rest) (λ x b q k. search (rules, tests))
    ∙ sym (list_any_of has_close c.args.fields.now)
