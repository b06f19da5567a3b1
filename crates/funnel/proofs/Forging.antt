-- The rule tells of one history, and no seat can claim a load that it did not make.
use Rattle.std.proofs.Common.{◌≡◌, refl, sym, ap, ◌∙◌, subst, inl, inr, ⊎_elim, arith}
use Rattle.annals.specs.Glossary.{Sitter, HasNoMore, MayDo}
use Rattle.annals.proofs.CallerLemmas as annals
use Rattle.funnel.specs.Glossary.{Shape, Holder, Load, value, IsOnItsWay, View, maker_of, tree_client, IsAskedBelow, OneHistory, HasNoLoadMore, NoStepIsForged}
use Rattle.funnel.specs.declared.view.Holder.TheVariants.{Processor, Engine}
use Rattle.funnel.specs.declared.view.Call.TheVariants.{From}
use Rattle.funnel.proofs.Climbing.{needs_climb}
use Rattle.funnel.proofs.Asked.{holds_what_was_asked}
use Rattle.funnel.proofs.Loads.{load_of, loads_push}

pub one_history : OneHistory
one_history shape s r = record {
  log = r.log;
  loads = r.deeds;
  legal = r.agreed.legal;
  nodes = r.agreed.nodes;
  loaded = r.agreed.loaded;
  seen = λ j v at. ((r.each_view j v at).seen, (r.each_view j v at).upto);
  asked = λ k below. let at = r.agreed.nodes k below in ⊎_elim
      (λ none. inl (at ∙ none))
      (λ (a : IsAskedBelow shape r.log k (value k r.log)). inr (subst (λ n. IsAskedBelow shape r.log k n) (sym at) a))
      (holds_what_was_asked shape r.log k r.agreed.legal);
  climbs = λ j k child below. let at = r.agreed.nodes j below in let low = child.0 in let above = r.agreed.nodes k (omega (arith, low, below)) in ⊎_elim
      (λ le. inl (omega (arith, at, above, le)))
      (λ (t : IsOnItsWay r.log j). inr (t.0, t.1 ∙ ap (From j) (sym at)))
      (needs_climb shape r.log r.agreed.legal j k child);
}

maker_back : (h o : Holder) → maker_of h ≡ maker_of o → h ≡ o
maker_back (Processor p) (Processor q) e = ap Processor (same_sitter e)
  where
    same_sitter : Sitter p ≡ Sitter q → p ≡ q
    same_sitter t = cc
maker_back (Processor p) Engine e = absurd cc
maker_back Engine (Processor q) e = absurd cc
maker_back Engine Engine e = refl

-- anyone may load the root once more
loads_again : (shape : Shape) (o : Holder) → MayDo tree_client shape (maker_of o)
loads_again shape o _ words homes log loads a = (load_of o (value 0 log) log, refl, record { legal = a.legal; wide = a.wide; nodes = a.nodes; loaded = loads_push loads o (value 0 log) log refl a.loaded })

none_more : (h : Holder) (u w : View) → HasNoMore (λ (l : Load). maker_of l.by) (maker_of h) u.done w.done → HasNoLoadMore h u w
none_more h u w m = record { rest = m.rest; whole = m.whole }

pub never_forged : NoStepIsForged
never_forged shape s r id v at k u here h o is differ not =
    let g = annals.no_deed_forged tree_client shape s r id v at k u here (maker_of h) (maker_of o) is (λ e. differ (maker_back h o e)) not (loads_again shape o) in (
      (λ left right splits. let m = g.0 left right splits in (none_more h u left m.0, none_more h u right m.1)),
      (λ other w both gone apart there_too neither_one joins. let m = g.1 other w both gone apart there_too neither_one joins in (none_more h u both m.0, none_more h u gone m.1)),
    )
