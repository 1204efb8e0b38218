-- Names as the code looks them up, and refusals that it passes over.
use Rattle.std.specs.Prelude.{◌≡◌, ◌≢◌, Result, Ok, Err, ⊤}
use Rattle.ur_base.specs.Stopping.{Says}
use Rattle.ur_base.specs.declared.refusal.Span.{Span}
use Rattle.ur_base.specs.declared.refusal.Stop.{Stop}
use Rattle.ur_base.specs.declared.refusal.Stop.TheVariants as stop
use Rattle.ur_syntax.specs.declared.con.ConName.{ConName}
use Rattle.ur_syntax.specs.Names.{own, member}
use Rattle.ur_kinds.specs.declared.state.Key.{Key}
use Rattle.ur_kinds.specs.declared.state.Key.TheVariants as key

abbrev pub key_of : Key → ConName
key_of (key.Own x) = own x.now
key_of (key.Member m x) = member m.now x.now

-- a refusal for an unknown name is passed over, any other one is given at this place
abbrev pub ButNames : Span → Stop → Result (Unit {0}) Stop → Type 0
ButNames p (stop.Refused r) (Ok a) = r.code ≡ 7
ButNames p (stop.Refused r) (Err (stop.Refused q)) = Says q r.code r.left r.right × (q.span ≡ p) × (r.code ≢ 7)
ButNames p (stop.Refused r) (Err stop.Memory) = ⊥
ButNames p stop.Memory (Ok a) = ⊥
ButNames p stop.Memory (Err (stop.Refused q)) = ⊥
ButNames p stop.Memory (Err stop.Memory) = ⊤
