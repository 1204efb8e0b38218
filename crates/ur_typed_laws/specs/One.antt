-- A project has at most one typed source.
use Rattle.std.specs.Prelude.{◌≡◌, ◌≤◌, ℕ, List, Option}
use Rattle.ur_syntax.specs.declared.decl.Module.{Module}
use Rattle.ur_syntax.specs.declared.decl.Signature.{Signature}
use Rattle.ur_tree.specs.declared.typed.Typed.{Typed}
use Rattle.ur_typed.specs.Typed.{IsTypedWithin, IsTyped}

-- A typed source whose normal forms keep a limit is one within any larger limit.
abbrev pub LargerLimit : Type 0
LargerLimit = (most more : ℕ) → most ≤ more → (names : List (List ℕ)) (modules : List Module) (signature : Option Signature) (app : Typed) → IsTypedWithin most names modules signature app → IsTypedWithin more names modules signature app

-- Two typed sources of one project are equal, whichever limits their normal forms keep.
abbrev pub OneTypedSource : Type 0
OneTypedSource = (names : List (List ℕ)) (modules : List Module) (signature : Option Signature) (a b : Typed) → IsTyped names modules signature a → IsTyped names modules signature b → a ≡ b
