-- Words on what a server's calls answer.
use Rattle.std.specs.Prelude.{◌≡◌, ℕ, List, ⊤}
use Rattle.ur_serve.specs.declared.responder.Reply.{Reply}
use Rattle.ur_serve.specs.declared.responder.Reply.TheVariants as reply
use Rattle.ur_serve.specs.declared.ends.NewEnd.{NewEnd}
use Rattle.ur_serve.specs.declared.ends.NewEnd.TheVariants as end
use Rattle.ur_serve.specs.declared.ends.Routed.{Routed}
use Rattle.ur_serve.specs.declared.ends.Routed.TheVariants as routed
use Rattle.ur_serve.specs.Replies as meant
use Rattle.ur_values.specs.declared.schema.Schema.{Schema}
use Rattle.ur_values.specs.declared.value.Call.{Call}

-- P of the bytes, where the reply is the program's
abbrev pub IfDone : Reply → (List ℕ → Type 0) → Type 0
IfDone (reply.Done bytes) P = P bytes
IfDone r P = ⊤

-- P, where the reply is not the program's
abbrev pub UnlessDone : Reply → Type 0 → Type 0
UnlessDone (reply.Done bytes) P = ⊤
UnlessDone r P = P

-- the schema that the store keeps is another one
abbrev pub IfDiffers : NewEnd → (Schema → Type 0) → Type 0
IfDiffers (end.Differs schema) P = P schema
IfDiffers e P = ⊤

-- the same as the code says it
abbrev pub IsRoutedAs : meant.Routed → Routed → Type 0
IsRoutedAs (meant.handled call) (routed.Handled own) = own ≡ call
IsRoutedAs (meant.turned_away status allowed) (routed.Away own methods) = (own ≡ status) × (methods.now ≡ allowed)
IsRoutedAs _ _ = ⊥

-- P of the call, where it is handled
abbrev pub IfHandled : Routed → (Call → Type 0) → Type 0
IfHandled (routed.Handled call) P = P call
IfHandled r P = ⊤

-- P of the status and the methods, where the request is turned away
abbrev pub IfAway : Routed → (ℕ → List ℕ → Type 0) → Type 0
IfAway (routed.Away status methods) P = P status methods.now
IfAway r P = ⊤
