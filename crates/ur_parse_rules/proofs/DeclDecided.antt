-- Declarations, modules and signatures are read in one way.
use Rattle.std.specs.Prelude.{refl}
use Rattle.ur_parse_rules.proofs.Once.{Decided}
use Rattle.ur_parse_rules.specs.DeclParts.{DeclPart, whole, decls, decl, variant, variant_con, more_variants, keys, key_column, key_columns, more_columns, after_comma, columns_end, more_constraints, constraint_head, constraint_name, definition, more_definitions, con_params, params, signature, val_decls, val_decl}
use Rattle.ur_parse_rules.specs.Parts.{of_decl}
use Rattle.ur_parse_rules.specs.Language.{language}
use Rattle.ur_parse_rules.proofs.Table.{by_table}
use Rattle.ur_parse_rules.proofs.Choice.{choice}

pub decl_decided : (p : DeclPart) → Decided language choice (of_decl p)
decl_decided whole = by_table choice (of_decl whole) (λ a k w h. h) refl refl
decl_decided decls = by_table choice (of_decl decls) (λ a k w h. h) refl refl
decl_decided decl = by_table choice (of_decl decl) (λ a k w h. h) refl refl
decl_decided variant = by_table choice (of_decl variant) (λ a k w h. h) refl refl
decl_decided variant_con = by_table choice (of_decl variant_con) (λ a k w h. h) refl refl
decl_decided more_variants = by_table choice (of_decl more_variants) (λ a k w h. h) refl refl
decl_decided keys = by_table choice (of_decl keys) (λ a k w h. h) refl refl
decl_decided key_column = by_table choice (of_decl key_column) (λ a k w h. h) refl refl
decl_decided key_columns = by_table choice (of_decl key_columns) (λ a k w h. h) refl refl
decl_decided more_columns = by_table choice (of_decl more_columns) (λ a k w h. h) refl refl
decl_decided after_comma = by_table choice (of_decl after_comma) (λ a k w h. h) refl refl
decl_decided columns_end = by_table choice (of_decl columns_end) (λ a k w h. h) refl refl
decl_decided more_constraints = by_table choice (of_decl more_constraints) (λ a k w h. h) refl refl
decl_decided constraint_head = by_table choice (of_decl constraint_head) (λ a k w h. h) refl refl
decl_decided constraint_name = by_table choice (of_decl constraint_name) (λ a k w h. h) refl refl
decl_decided definition = by_table choice (of_decl definition) (λ a k w h. h) refl refl
decl_decided more_definitions = by_table choice (of_decl more_definitions) (λ a k w h. h) refl refl
decl_decided con_params = by_table choice (of_decl con_params) (λ a k w h. h) refl refl
decl_decided params = by_table choice (of_decl params) (λ a k w h. h) refl refl
decl_decided signature = by_table choice (of_decl signature) (λ a k w h. h) refl refl
decl_decided val_decls = by_table choice (of_decl val_decls) (λ a k w h. h) refl refl
decl_decided val_decl = by_table choice (of_decl val_decl) (λ a k w h. h) refl refl
