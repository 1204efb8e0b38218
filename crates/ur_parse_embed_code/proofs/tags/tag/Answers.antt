use Rattle.ur_parse_rules.proofs.Steps.{passed}
use Rattle.ur_parse_embed_code.proofs.Tagged.{word_refused, field_refused, tag_read}
use Rattle.ur_parse_embed_code.proofs.tags.tag.Goals as goal

pub returns-in_err-word-clause-refused : goal.returns-in_err-word-clause-refused
returns-in_err-word-clause-refused c = passed _ _ c.from_residual.ensures.1 c.in_err-word.ensures.refused (λ r h n. word_refused c.args.tokens.now c.args.at h)

pub returns-in_err-field-clause-refused : goal.returns-in_err-field-clause-refused
returns-in_err-field-clause-refused c = passed _ _ c.from_residual-in_err-field.ensures.1 c.in_err-field.ensures.refused (λ r h n. field_refused c.in_ok-word.ensures.found (h n))

pub returns-clause-found : goal.returns-clause-found
returns-clause-found c = λ n. tag_read c.in_ok-word.ensures.found c.in_ok-field.end (c.in_ok-field.ensures.found n)
