-- `execute::execute` meets its contract.
use mathlib.Core.Path.{◌≡◌, sym, ap, ◌∙◌}
use Rattle.std.proofs.Common.{inl, inr}
use mathlib.Core.Bool.{true}
use mathlib.Core.List.{List}
use Prim.Native.Nat.{ℕ, ◌≤◌}
use native.Mathlib.Omega.{arith}
use lib.ListN.{length}
use Rattle.sifv.specs.Slot.{value_ok}
use Rattle.opc.specs.Op as model
use Rattle.opc.specs.declared.Op.{Op}
use Rattle.tables.specs.Tables.{label_at}
use Rattle.vm.specs.Operation.{Ok, read}
use Rattle.vm.specs.Machine as Machine
use Rattle.execute.specs.inner.View.{names_of, view, Holds, Neat, Stepped, GivenStep}
use Rattle.execute.specs.laws.Laying.{length_stack, length_frames, canon_neat}
use Rattle.execute.specs.laws.Acts.{reg_formed, reg_value, name_formed, name_value, loads_law, loadv_law, wrote_law, stores_law}
use Rattle.execute.specs.laws.Stacks.{stored_as}
use Rattle.execute.specs.laws.Tabled.{looked_law}
use Rattle.execute.specs.inner.Means.{Means, op_at}
use Rattle.execute.specs.laws.Programs.{means_at, step_at, jump_law, on_law}
use Rattle.std.specs.declared.result.Result.TheVariants as got
use borrow.Author.Rules.{rules}
use Rattle.tables.specs.ProgramBytes.{program_in}
use Rattle.execute.specs.inner.ProgramView.{ProgramReady}
use Rattle.execute.proofs.execute.Goals as goal
use Rattle.execute.proofs.execute.Goals.{After-fetch-op, Start}

neat : (s : Start) → Neat s.args.state.now
neat s = canon_neat _ _ _ s.requires.1

near : (s : Start) → s.args.loc.pos ≤ 1024
near s = omega (arith, s.requires.2, s.requires.0.few)

holds : (s : Start) → Holds s.args.state.now (view s.args.state.now s.args.loc)
holds s = s.requires.1.holds

room : (s : Start) → 32768 ≤ length s.args.program.now
room s = omega (arith, s.requires.0.room)

ready : (s : Start) → ProgramReady s.args.program.now (program_in s.args.program.now)
ready s = s.requires.0

stack_max : (s : Start) → s.args.loc.depth ≤ 24
stack_max s = omega (arith, s.requires.1.sound.stack_max, length_stack s.args.state.now s.args.loc.depth)

calls_max : (s : Start) → s.args.loc.calls ≤ 24
calls_max s = omega (arith, s.requires.1.sound.calls_max, length_frames s.args.state.now s.args.loc.calls)

names_ok : (s : Start) (x : ℕ) → value_ok (names_of s.args.state.now x) ≡ true
names_ok s x = (s.requires.1.sound.names_ok.held x).0

-- what the instruction at the position means, once it is fetched and told
meant : (f : After-fetch-op) {u : Op} → f.fetch-op.result ≡ u → Means f.args.program.now u (op_at (program_in f.args.program.now) f.args.loc.pos)
meant f e =
    means_at _ _ f.requires.0 _ f.requires.2 (sym e ∙ f.fetch-op.ensures)

-- the step is the operation that the instruction means
carried : (s : Start) {o : model.Op} {b' : List ℕ} {r : GivenStep} → op_at (program_in s.args.program.now) s.args.loc.pos ≡ o → Stepped s.args.state.now b' (Machine.execute (program_in s.args.program.now) (view s.args.state.now s.args.loc) o) r
    → Stepped s.args.state.now b' (Machine.step (program_in s.args.program.now) (view s.args.state.now s.args.loc)) r
carried s e h = step_at (program_in s.args.program.now) _ s.args.loc _ s.requires.2 e h

pub binop-got-requires : goal.binop-got-requires
binop-got-requires c = let m = meant (goal.at.binop-got-requires c).After-fetch-op c.in-Binary.is in (neat (goal.at.binop-got-requires c).Start, m.1, m.2)

pub loads-requires : goal.loads-requires
loads-requires c =
    let m = meant (goal.at.loads-requires c).After-fetch-op c.in-Binary.is in
    (neat (goal.at.loads-requires c).Start, near (goal.at.loads-requires c).Start, m.3)

pub unop-got-requires : goal.unop-got-requires
unop-got-requires c = let m = meant (goal.at.unop-got-requires c).After-fetch-op c.in-Unary.is in (neat (goal.at.unop-got-requires c).Start, m.1)

pub loads-requires-in-Unary : goal.loads-requires-in-Unary
loads-requires-in-Unary c =
    let m = meant (goal.at.loads-requires-in-Unary c).After-fetch-op c.in-Unary.is in
    (neat (goal.at.loads-requires-in-Unary c).Start, near (goal.at.loads-requires-in-Unary c).Start, m.2)

pub loadc-requires : goal.loadc-requires
loadc-requires c = let m = meant (goal.at.loadc-requires c).After-fetch-op c.in-Ldc.is in (room (goal.at.loadc-requires c).Start, neat (goal.at.loadc-requires c).Start, m.1, m.2, m.3)

pub loadn-requires : goal.loadn-requires
loadn-requires c = let m = meant (goal.at.loadn-requires c).After-fetch-op c.in-Ldn.is in (neat (goal.at.loadn-requires c).Start, m.1, m.2)

pub mv-requires : goal.mv-requires
mv-requires c = let m = meant (goal.at.mv-requires c).After-fetch-op c.in-Mv.is in (neat (goal.at.mv-requires c).Start, m.1, m.2)

pub loadarrs-got-requires : goal.loadarrs-got-requires
loadarrs-got-requires c = let m = meant (goal.at.loadarrs-got-requires c).After-fetch-op c.in-Ldas.is in (neat (goal.at.loadarrs-got-requires c).Start, m.1)

pub loads-requires-in-Ldas : goal.loads-requires-in-Ldas
loads-requires-in-Ldas c =
    let m = meant (goal.at.loads-requires-in-Ldas c).After-fetch-op c.in-Ldas.is in
    (neat (goal.at.loads-requires-in-Ldas c).Start, near (goal.at.loads-requires-in-Ldas c).Start, m.2)

pub loadarrv-got-requires : goal.loadarrv-got-requires
loadarrv-got-requires c = let m = meant (goal.at.loadarrv-got-requires c).After-fetch-op c.in-Ldav.is in (neat (goal.at.loadarrv-got-requires c).Start, m.1, m.2)

pub loads-requires-in-Ldav : goal.loads-requires-in-Ldav
loads-requires-in-Ldav c =
    let m = meant (goal.at.loads-requires-in-Ldav c).After-fetch-op c.in-Ldav.is in
    (neat (goal.at.loads-requires-in-Ldav c).Start, near (goal.at.loads-requires-in-Ldav c).Start, m.3)

pub newarrv-requires : goal.newarrv-requires
newarrv-requires c = let m = meant (goal.at.newarrv-requires c).After-fetch-op c.in-Upda.is in (neat (goal.at.newarrv-requires c).Start, m.1, m.2, m.3)

pub storec-requires : goal.storec-requires
storec-requires c = let m = meant (goal.at.storec-requires c).After-fetch-op c.in-Stc.is in (room (goal.at.storec-requires c).Start, neat (goal.at.storec-requires c).Start, m.1, m.2, m.3)

pub slot-requires : goal.slot-requires
slot-requires c = let m = meant (goal.at.slot-requires c).After-fetch-op c.in-Stn.is in m.1

pub store-requires : goal.store-requires
store-requires c =
    let m = meant (goal.at.store-requires c).After-fetch-op c.in-Stn.is in
    let f = name_formed _ (neat (goal.at.store-requires c).Start) _ m.1 c.slot.ensures in
    (neat (goal.at.store-requires c).Start, m.2, f.0, f.1, omega (arith, c.slot.ensures))

pub reg-requires : goal.reg-requires
reg-requires c = let m = meant (goal.at.reg-requires c).After-fetch-op c.in-Str.is in m.1

pub store-requires-in-Str : goal.store-requires-in-Str
store-requires-in-Str c =
    let m = meant (goal.at.store-requires-in-Str c).After-fetch-op c.in-Str.is in
    let f = reg_formed _ (neat (goal.at.store-requires-in-Str c).Start) _ m.1 c.reg.ensures in
    (neat (goal.at.store-requires-in-Str c).Start, m.2, f.0, f.1, omega (arith, c.reg.ensures))

pub branch-program-requires : goal.branch-program-requires
branch-program-requires c =
    let m = meant (goal.at.branch-program-requires c).After-fetch-op c.in-JmpCnd.is in
    (ready (goal.at.branch-program-requires c).Start, neat (goal.at.branch-program-requires c).Start, holds (goal.at.branch-program-requires c).Start, near (goal.at.branch-program-requires c).Start, m.1, m.2)

pub jump-requires : goal.jump-requires
jump-requires c = let m = meant (goal.at.jump-requires c).After-fetch-op c.in-Jmpa.is in (ready (goal.at.jump-requires c).Start, m.1)

pub incrr-got-requires : goal.incrr-got-requires
incrr-got-requires c = let m = meant (goal.at.incrr-got-requires c).After-fetch-op c.in-Incrr.is in (neat (goal.at.incrr-got-requires c).Start, m.1)

pub loads-requires-in-Incrr : goal.loads-requires-in-Incrr
loads-requires-in-Incrr c =
    let m = meant (goal.at.loads-requires-in-Incrr c).After-fetch-op c.in-Incrr.is in
    (neat (goal.at.loads-requires-in-Incrr c).Start, near (goal.at.loads-requires-in-Incrr c).Start, m.1)

pub decrr-got-requires : goal.decrr-got-requires
decrr-got-requires c = let m = meant (goal.at.decrr-got-requires c).After-fetch-op c.in-Decrr.is in (neat (goal.at.decrr-got-requires c).Start, m.1)

pub loads-requires-in-Decrr : goal.loads-requires-in-Decrr
loads-requires-in-Decrr c =
    let m = meant (goal.at.loads-requires-in-Decrr c).After-fetch-op c.in-Decrr.is in
    (neat (goal.at.loads-requires-in-Decrr c).Start, near (goal.at.loads-requires-in-Decrr c).Start, m.1)

pub declare-requires : goal.declare-requires
declare-requires c = let m = meant (goal.at.declare-requires c).After-fetch-op c.in-Fn.is in (holds (goal.at.declare-requires c).Start, near (goal.at.declare-requires c).Start, m.1)

pub call-requires : goal.call-requires
call-requires c = let m = meant (goal.at.call-requires c).After-fetch-op c.in-Call.is in (holds (goal.at.call-requires c).Start, calls_max (goal.at.call-requires c).Start, near (goal.at.call-requires c).Start, m.1)

pub enum_told-1 : goal.enum_told-1
enum_told-1 c = search rules

pub ret-requires : goal.ret-requires
ret-requires c = (holds (goal.at.ret-requires c).Start, calls_max (goal.at.ret-requires c).Start)

pub push-requires : goal.push-requires
push-requires c =
    let m = meant (goal.at.push-requires c).After-fetch-op c.in-FnStackPush.is in
    (neat (goal.at.push-requires c).Start, holds (goal.at.push-requires c).Start, stack_max (goal.at.push-requires c).Start, near (goal.at.push-requires c).Start, m.1)

pub pop-requires : goal.pop-requires
pop-requires c =
    let m = meant (goal.at.pop-requires c).After-fetch-op c.in-FnStackPop.is in
    (neat (goal.at.pop-requires c).Start, holds (goal.at.pop-requires c).Start, stack_max (goal.at.pop-requires c).Start, near (goal.at.pop-requires c).Start, m.1)

pub tbli-requires : goal.tbli-requires
tbli-requires c = let m = meant (goal.at.tbli-requires c).After-fetch-op c.in-Tbli.is in (neat (goal.at.tbli-requires c).Start, m.1, m.2, m.3, names_ok (goal.at.tbli-requires c).Start c.in-Tbli.tabname)

pub tblg-requires : goal.tblg-requires
tblg-requires c = let m = meant (goal.at.tblg-requires c).After-fetch-op c.in-Tblg.is in (neat (goal.at.tblg-requires c).Start, m.1, m.3, names_ok (goal.at.tblg-requires c).Start c.in-Tblg.tabname)

pub returns-in-Binary : goal.returns-in-Binary
returns-in-Binary c =
    let m = meant (goal.at.returns-in-Binary c).After-fetch-op c.in-Binary.is in
    carried (goal.at.returns-in-Binary c).Start m.0 (loads_law _ c.args.loc (holds (goal.at.returns-in-Binary c).Start) _ m.3 c.binop-got.ensures c.loads.ensures)

pub returns-in-Unary : goal.returns-in-Unary
returns-in-Unary c =
    let m = meant (goal.at.returns-in-Unary c).After-fetch-op c.in-Unary.is in
    carried (goal.at.returns-in-Unary c).Start m.0 (loads_law _ c.args.loc (holds (goal.at.returns-in-Unary c).Start) _ m.2 c.unop-got.ensures c.loads-in-Unary.ensures)

pub returns-in-Ldc : goal.returns-in-Ldc
returns-in-Ldc c =
    let m = meant (goal.at.returns-in-Ldc c).After-fetch-op c.in-Ldc.is in
    carried (goal.at.returns-in-Ldc c).Start m.0 (loadv_law _ c.args.loc (holds (goal.at.returns-in-Ldc c).Start) _ (Ok _) m.1 c.loadc.ensures (ap got.Ok c.on.ensures))

pub returns-in-Ldn : goal.returns-in-Ldn
returns-in-Ldn c =
    let m = meant (goal.at.returns-in-Ldn c).After-fetch-op c.in-Ldn.is in
    carried (goal.at.returns-in-Ldn c).Start m.0 (loadv_law _ c.args.loc (holds (goal.at.returns-in-Ldn c).Start) _ (read (names_of c.args.state.now) c.in-Ldn.name) m.1 c.loadn.ensures c.stepped.ensures)

pub returns-in-Mv : goal.returns-in-Mv
returns-in-Mv c =
    let m = meant (goal.at.returns-in-Mv c).After-fetch-op c.in-Mv.is in
    carried (goal.at.returns-in-Mv c).Start m.0 (wrote_law _ c.args.loc (holds (goal.at.returns-in-Mv c).Start) _ _ m.2 c.mv.ensures (ap got.Ok c.on-in-Mv.ensures))

pub returns-in-Ldas : goal.returns-in-Ldas
returns-in-Ldas c =
    let m = meant (goal.at.returns-in-Ldas c).After-fetch-op c.in-Ldas.is in
    carried (goal.at.returns-in-Ldas c).Start m.0 (loads_law _ c.args.loc (holds (goal.at.returns-in-Ldas c).Start) _ m.2 c.loadarrs-got.ensures c.loads-in-Ldas.ensures)

pub returns-in-Ldav : goal.returns-in-Ldav
returns-in-Ldav c =
    let m = meant (goal.at.returns-in-Ldav c).After-fetch-op c.in-Ldav.is in
    carried (goal.at.returns-in-Ldav c).Start m.0 (loads_law _ c.args.loc (holds (goal.at.returns-in-Ldav c).Start) _ m.3 c.loadarrv-got.ensures c.loads-in-Ldav.ensures)

pub returns-in-Upda : goal.returns-in-Upda
returns-in-Upda c =
    let m = meant (goal.at.returns-in-Upda c).After-fetch-op c.in-Upda.is in
    carried (goal.at.returns-in-Upda c).Start m.0 (stores_law _ c.args.loc (holds (goal.at.returns-in-Upda c).Start) c.newarrv.ensures c.stepped-in-Upda.ensures)

pub returns-in-Stc : goal.returns-in-Stc
returns-in-Stc c =
    let m = meant (goal.at.returns-in-Stc c).After-fetch-op c.in-Stc.is in
    carried (goal.at.returns-in-Stc c).Start m.0 (stores_law _ c.args.loc (holds (goal.at.returns-in-Stc c).Start) c.storec.ensures (ap got.Ok c.on-in-Stc.ensures))

pub returns-in-Stn : goal.returns-in-Stn
returns-in-Stn c =
    let m = meant (goal.at.returns-in-Stn c).After-fetch-op c.in-Stn.is in
    carried (goal.at.returns-in-Stn c).Start m.0 (stores_law _ c.args.loc (holds (goal.at.returns-in-Stn c).Start) (stored_as _ _ (name_value _ (neat (goal.at.returns-in-Stn c).Start) _ m.1 c.slot.ensures) c.store.ensures) (ap got.Ok c.on-in-Stn.ensures))

pub returns-in-Str : goal.returns-in-Str
returns-in-Str c =
    let m = meant (goal.at.returns-in-Str c).After-fetch-op c.in-Str.is in
    carried (goal.at.returns-in-Str c).Start m.0 (stores_law _ c.args.loc (holds (goal.at.returns-in-Str c).Start) (stored_as _ _ (reg_value _ (neat (goal.at.returns-in-Str c).Start) _ m.1 c.reg.ensures) c.store-in-Str.ensures) (ap got.Ok c.on-in-Str.ensures))

pub returns-in-JmpCnd : goal.returns-in-JmpCnd
returns-in-JmpCnd c =
    let m = meant (goal.at.returns-in-JmpCnd c).After-fetch-op c.in-JmpCnd.is in
    carried (goal.at.returns-in-JmpCnd c).Start m.0 c.branch-program.ensures

pub returns-in-Jmpa : goal.returns-in-Jmpa
returns-in-Jmpa c =
    let m = meant (goal.at.returns-in-Jmpa c).After-fetch-op c.in-Jmpa.is in
    carried (goal.at.returns-in-Jmpa c).Start m.0 (jump_law _ c.args.loc (holds (goal.at.returns-in-Jmpa c).Start) (label_at (program_in c.args.program.now).code c.in-Jmpa.lblidx) c.jump.ensures)

pub returns-in-Incrr : goal.returns-in-Incrr
returns-in-Incrr c =
    let m = meant (goal.at.returns-in-Incrr c).After-fetch-op c.in-Incrr.is in
    carried (goal.at.returns-in-Incrr c).Start m.0 (loads_law _ c.args.loc (holds (goal.at.returns-in-Incrr c).Start) _ m.1 c.incrr-got.ensures c.loads-in-Incrr.ensures)

pub returns-in-Decrr : goal.returns-in-Decrr
returns-in-Decrr c =
    let m = meant (goal.at.returns-in-Decrr c).After-fetch-op c.in-Decrr.is in
    carried (goal.at.returns-in-Decrr c).Start m.0 (loads_law _ c.args.loc (holds (goal.at.returns-in-Decrr c).Start) _ m.1 c.decrr-got.ensures c.loads-in-Decrr.ensures)

pub returns-in-Fn : goal.returns-in-Fn
returns-in-Fn c =
    let m = meant (goal.at.returns-in-Fn c).After-fetch-op c.in-Fn.is in
    carried (goal.at.returns-in-Fn c).Start m.0 c.declare.ensures

pub returns-in-Call : goal.returns-in-Call
returns-in-Call c =
    let m = meant (goal.at.returns-in-Call c).After-fetch-op c.in-Call.is in
    carried (goal.at.returns-in-Call c).Start m.0 c.call.ensures

pub returns-in-FnRet : goal.returns-in-FnRet
returns-in-FnRet c =
    let m = meant (goal.at.returns-in-FnRet c).After-fetch-op c.in-FnRet.is in
    carried (goal.at.returns-in-FnRet c).Start m c.ret.ensures

pub returns-in-FnStackPush : goal.returns-in-FnStackPush
returns-in-FnStackPush c =
    let m = meant (goal.at.returns-in-FnStackPush c).After-fetch-op c.in-FnStackPush.is in
    carried (goal.at.returns-in-FnStackPush c).Start m.0 c.push.ensures

pub returns-in-FnStackPop : goal.returns-in-FnStackPop
returns-in-FnStackPop c =
    let m = meant (goal.at.returns-in-FnStackPop c).After-fetch-op c.in-FnStackPop.is in
    carried (goal.at.returns-in-FnStackPop c).Start m.0 c.pop.ensures

pub returns-in-Tbli : goal.returns-in-Tbli
returns-in-Tbli c =
    let m = meant (goal.at.returns-in-Tbli c).After-fetch-op c.in-Tbli.is in
    carried (goal.at.returns-in-Tbli c).Start m.0 (stores_law _ c.args.loc (holds (goal.at.returns-in-Tbli c).Start) c.tbli.ensures c.stepped-in-Tbli.ensures)

pub returns-in-Tblg : goal.returns-in-Tblg
returns-in-Tblg c =
    let m = meant (goal.at.returns-in-Tblg c).After-fetch-op c.in-Tblg.is in
    carried (goal.at.returns-in-Tblg c).Start m.0 (looked_law _ c.args.loc (holds (goal.at.returns-in-Tblg c).Start) _ _ m.3 c.tblg.ensures c.stepped-in-Tblg.ensures)

pub returns-in-Nop : goal.returns-in-Nop
returns-in-Nop c =
    let s = (goal.at.returns-in-Nop c).Start in
    let f = (goal.at.returns-in-Nop c).After-fetch-op in
    let h = on_law _ c.args.loc (holds s) (ap got.Ok c.on-in-Nop.ensures) in
    elim c.in-Nop.is [ inl e ↦ carried s (meant f e) h | inr e ↦ carried s (meant f e) h ]

pub returns-in-Bad : goal.returns-in-Bad
returns-in-Bad c = absurd (meant (goal.at.returns-in-Bad c).After-fetch-op c.in-Bad.is)
