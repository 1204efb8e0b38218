-- What the functions find of a project is its typed source.
use Rattle.std.specs.Prelude.{◌≡◌, ℕ, List, length, Option}
use Rattle.ur_syntax.specs.declared.decl.Module.{Module}
use Rattle.ur_syntax.specs.declared.decl.Signature.{Signature}
use Rattle.ur_tree.specs.declared.typed.Typed.{Typed}
use Rattle.ur_typed.specs.Typed.{IsTypedWithin}
use Rattle.ur_typed.specs.Source.{IsChecked}

-- A source that is put together of what the functions give of a project, each module of which has a name, is typed by the rules.
abbrev pub CheckedIsTyped : Type 0
CheckedIsTyped = (most : ℕ) (names : List (List ℕ)) (modules : List Module) (signature : Option Signature) (app : Typed) → length names ≡ length modules → IsChecked most names modules signature app → IsTypedWithin most names modules signature app
