use Rattle.std.proofs.Common.{◌≡◌, ◌≤◌, take, drop, List}
use Rattle.ur_values.specs.declared.value.Value.{Value}
use Rattle.ur_terms.specs.State.{State}
use Rattle.ur_terms.specs.Run.{Does, Calls, first_branch}
use Rattle.ur_emit.specs.Slots.{EmitAll, EmitEach}
use Rattle.ur_emit.proofs.terms.+emit.Given as goal

abbrev pub invariant-emit_all-loop-term : goal.invariant-emit_all-loop-term
invariant-emit_all-loop-term l = record {
  same : l.slots ≡ l.initial.slots;
  sofar : EmitAll l.handlers l.initial.slots (take l.term-index l.terms) l.initial.out l.out l.initial.room l.room l.deep;
}

abbrev pub invariant-emit_items-loop-item : goal.invariant-emit_items-loop-item
invariant-emit_items-loop-item l = record {
  same : l.slots ≡ l.initial.slots;
  sofar : EmitEach l.handlers l.initial.slots l.body (take l.item-index l.items) l.initial.out l.out l.initial.room l.room l.deep;
}

abbrev pub invariant-emit_case-loop-branch : goal.invariant-emit_case-loop-branch
invariant-emit_case-loop-branch l = record {
  same : l.slots ≡ l.initial.slots;
  bytes : l.out ≡ l.initial.out;
  space : l.room ≡ l.initial.room;
  left : (d : Does) (calls : Calls) (env : List Value) (s : State)
      → first_branch d calls l.branches l.value env s ≡ first_branch d calls (drop l.branch-index l.branches) l.value env s;
}

abbrev pub invariant-emit_from-loop-i : goal.invariant-emit_from-loop-i
invariant-emit_from-loop-i l = record {
  same : l.slots ≡ l.initial.slots;
  behind : l.from ≤ l.i;
  sofar : EmitAll l.handlers l.initial.slots (drop l.from (take l.i l.terms)) l.initial.out l.out l.initial.room l.room l.deep;
}
