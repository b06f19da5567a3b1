-- What a call leaves for a barrier: its receipt is of the domain, and no reading is opened.
use Rattle.std.proofs.Common.{Result, Ok, Err, refl, ap, ◌∙◌}
use Rattle.std.specs.Prelude.{MatchResult}
use Rattle.onedom.specs.Histories.{open_sections}
use Rattle.onedom.proofs.CallerLemmas.{open_sections_plain}
use Rattle.sections.specs.Glossary.{SightView, GivesCookieBehind, CookieView}
use Rattle.calls.specs.declared.refusals.CallRefusal.{CallRefusal}
use Rattle.calls.specs.declared.refusals.CallRefusal.TheVariants.{Exhausted, Memory}
use Rattle.calls.specs.Glossary.{CallSeatView, ReceiptView, IsCause}
use Rattle.domain.specs.Glossary.{DomainView, CpuView, IsOf, HasNoneOpen, CallsIn, RefusesCall, IsReceiptOf}
use Rattle.domain.proofs.Synchronizing.{none_open}

module _ {J : Type 0} where
  -- a cookie opens none
  none_noted : (s s' : SightView) (c c' : CpuView J) (cookie : CookieView) → HasNoneOpen c → GivesCookieBehind s c.cpu c'.cpu cookie s' → HasNoneOpen c'
  none_noted s s' c c' cookie none h = none_open c c' none (ap open_sections h.adds.mine ∙ open_sections_plain c.cpu.mine _ refl (λ t. refl))

module _ {J : Type 0} where
  none_refused : (s : CallSeatView J) (c c' : CpuView J) (r : CallRefusal) → HasNoneOpen c → IsCause c.cpu s r c'.cpu → HasNoneOpen c'
  none_refused s c c' Exhausted none h = none_open c c' none (ap (λ z. open_sections z.mine) h.1)
  none_refused s c c' Memory none h = none_noted _ _ c c' h.1.0 none h.1.3

  -- the receipt is one of the domain's
  pub queued_here : (d : DomainView) (c c' : CpuView J) (job : J) (r : ReceiptView J) → IsOf d c → CallsIn d c job r c' → IsReceiptOf d r
  queued_here d c c' job r here h = let q = h.queues.queues in q.noted.0 ∙ (q.tally.same.0 ∙ here.fits.tallies)

  -- no reading is opened by a call, nor by one that is refused
  pub none_queued : (d : DomainView) (c c' : CpuView J) (job : J) (result : Result (ReceiptView J) (J × CallRefusal)) → HasNoneOpen c → MatchResult result (λ receipt. CallsIn d c job receipt c') (λ refused. RefusesCall d c job refused c') → HasNoneOpen c'
  none_queued d c c' job (Ok r) none h = none_noted _ _ c c' _ none h.queues.queues.note
  none_queued d c c' job (Err e) none h = none_refused c.calls c c' e.1 none h.refuses.refuses.cause
