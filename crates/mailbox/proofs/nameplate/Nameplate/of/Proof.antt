-- A nameplate is made: nothing but its key, which has no bytes. Assumes `Logic`.
use Rattle.std.proofs.Common.{◌≡◌, ℕ, List, [], ◌∷◌, refl}
use Rattle.std.proofs.raw_atomic.Walks.{proved, leaves}
use mir.Syntax.{a_type, named}
use mir.Val.{Val, vptr, vstruct, vcons, vnil}
use mir.MapTy.{inst_fn}
use base.Logic.{SProp, emp}
use contract.Running.{tables}
use contract.Monad.{fact, fact_i}
use types.Kit.{‵, raw, ◌⊛◌, ◌$◌, ◌∵◌, !, qed, by, keep, split, fjoin, use0}
use types.Part.{agg}
use types.Run.{enter, returns, and_then, no_more}
use types.ByLocal.{alloc_all, pass_all, free_all, look_at, get, sets}
use denote.Exit.{yes}
use denote.RattleType.{RattleType, owns}
use denote.Builtin.{RefOf}
use denote.Param.{param, layouts}
use denote.Ref.{shr_vals, shr_Tells}
use denote.Signature.{plain, types_at}
use denote.Steps.{nothing}
use denote.Struct.Struct.{Struct, Struct-Makes}
use denote.Struct.Owning.{shape}
use denote.Triple.Entry.{alive}
use denote.Triple.Walked.{Stays, walk_of, stay_dropped, Goes-dropped}
use Rattle.mailbox.specs.contracts.nameplate.Nameplate as nameplate
use Rattle.mailbox.specs.contracts.nameplate.Nameplate.of.{ended, clauses}
use Rattle.mailbox.specs.contracts.nameplate.Nameplate.of.Key.{name as #self}
use Rattle.mailbox.proofs.nameplate.Nameplate.of.Statement.{statement}
use Rattle.mailbox.proofs.nameplate.Nameplate.of.Code as code

abbrev word : Val
word = vstruct (vcons (vstruct vnil) vnil)

pub of_spec : {M : Type 1} → statement M
of_spec 𝓤 𝓛 𝓜 𝓡 wired X LX =
    let tabs = tables 𝓤 𝓛.H 𝓜 𝓡 𝓡.env in let R : RattleType = param 0 X in let Fields : RattleType = Struct (shape (nameplate.the_type R)) in
    let Ends = ended X in let inst = layouts (a_type ∷ []) (X, tt) in let fn = inst_fn inst code.function in let told = clauses X 𝓛 𝓜.mem 𝓡.returns in
    let key = RefOf (0 ∷ []) tt (plain (λ _. R)) (λ _. tt) in let stays : Stays Ends.signature.params Ends.kept = (stay_dropped key yes, tt) in
    proved 𝓛 Ends stays told 𝓜 𝓡 (Goes-dropped 𝓛 2 key yes (λ κs x f. refl), tt) (#self inst) fn (code.unfolded 𝓤 𝓛.H 𝓜 𝓡 wired (X, tt))
    (λ κs. (shr_vals, tt)) (λ κs. (shr_Tells (named 0) κs.0 R, tt)) (λ κs qs bounds a gh are.
    let p : ℕ × ℕ = a.0.ref_ptr in let x : R.Denot = a.0.now in let args : List Val = vptr p.0 p.1 ∷ [] in
    let at : (walk_of 𝓛 Ends stays told).Ghost = ((κs, qs, bounds, a, (args, tt)), gh) in let Left : Val → SProp 𝓤 = (walk_of 𝓛 Ends stays told).post at in
    let new : (nameplate.the_row R).Denot = record { of = record {}; key = x } in
    qed 𝓛 ((raw (alive 𝓛 Ends.signature κs qs) ⊛ ‵ (owns (types_at Ends.signature.params κs) a at.0.4)) ∷ raw ((told κs a).requires gh) ∷ []) ∵
    split ! $ keep ! (0 ∷ []) $
    enter ! tabs.C tabs.Λ fn args Left $ alloc_all ! (λ l. pass_all ! refl ((tt, tt), tt) $ sets ! (agg ! (no_more !)) refl (tt, tt) $ sets ! (agg ! (and_then ! (get ! refl) (no_more !))) refl (tt, (tt, tt)) $
    nothing ! $ use0 𝓛 (‵ (Fields.own_val (tt, tt) (word ∷ [])))
    (Struct-Makes 𝓛 (shape (nameplate.the_type R)) ((λ m us uss. (tt, tt)), tt) (tt, tt) (word ∷ []) ((vstruct vnil ∷ [], tt), (refl, ((tt, (refl, tt)), tt)))) $
    fjoin ! $ use0 𝓛 (raw (fact 𝓤 (x ≡ x))) (fact_i 𝓤 (x ≡ x) (emp 𝓤) refl) $ nothing ! $ nothing ! $ fjoin ! $
    returns ! (look_at ! 0 refl) $ free_all ! refl $ keep ! (3 ∷ 0 ∷ 2 ∷ 1 ∷ []) $ by ! (leaves 𝓛 Ends stays told at word new (tt, tt) (tt, tt))))
