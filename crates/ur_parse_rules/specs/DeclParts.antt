-- The nonterminals of declarations, modules and signatures.
pub data DeclPart : Type 0 where
  whole : DeclPart
  decls : DeclPart
  decl : DeclPart
  variant : DeclPart
  variant_con : DeclPart
  more_variants : DeclPart
  keys : DeclPart
  key_column : DeclPart
  key_columns : DeclPart
  more_columns : DeclPart
  after_comma : DeclPart
  columns_end : DeclPart
  more_constraints : DeclPart
  constraint_head : DeclPart
  constraint_name : DeclPart
  definition : DeclPart
  more_definitions : DeclPart
  con_params : DeclPart
  params : DeclPart
  signature : DeclPart
  val_decls : DeclPart
  val_decl : DeclPart
