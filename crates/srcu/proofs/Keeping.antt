-- Behind each call of a worker its processor is still of the domain, and no reading is open there.
use Rattle.std.proofs.Common.{◌≡◌, ◌<◌, ℕ, cond, Option, Result, Ok, Err, List, [], ◌∷◌, ◌++◌, All, get_or, refl, sym, ap, ◌∙◌, subst, arith}
use Rattle.std.proofs.lemmas.List.Elements.{All-push}
use Rattle.std.specs.Prelude.{MatchResult, IfOk, is_ok}
use Rattle.sseq.specs.Numbers.{cookie_at}
use Rattle.sections.specs.Words.{cells_in}
use Rattle.sections.specs.Dealing.{AreNewWriters}
use Rattle.sections.specs.Views.{ReadingView}
use Rattle.sections.specs.Calls.{ReadLocks, DownReads, Unlocks, LooksInVain}
use Rattle.sections.specs.WriterViews.{WriterView}
use Rattle.domain.specs.Views.{DomainView, CpuView, Stays}
use Rattle.domain.specs.Publishing.{FindsNone}
use Rattle.domain.specs.Waiting.{HasNoneOpen}
use Rattle.glance.specs.declared.snapshot.Snapshot.{Snapshot}
use Rattle.domain.specs.Acting.{takes, loads, notes, ActsAs}
use Rattle.domain.specs.Watching.{Snaps}
use Rattle.domain.proofs.CallerLemmas.{same_put, same_reclaimed, none_still, none_looked, none_enclosed, none_held, writers_here}
use Rattle.driver.specs.Pools.{IsIdle}
use Rattle.driver.specs.Works.{IsKept}
use Rattle.driver.proofs.CallerLemmas.{idle_kept, kept_plain, kept_quiet}
use Rattle.shelf.specs.Reading.{Reads}
use Rattle.shelf.specs.Replacing.{Replaces}
use Rattle.shelf.proofs.CallerLemmas as shelf
use Rattle.plugs.specs.declared.refusals.InstallRefusal.{InstallRefusal}
use Rattle.plugs.specs.declared.refusals.InstallRefusal.TheVariants as install
use Rattle.plugs.specs.declared.refusals.RemoveRefusal.{RemoveRefusal}
use Rattle.plugs.specs.declared.refusals.RemoveRefusal.TheVariants as remove
use Rattle.plugs.specs.Views.{TableState, LeaseView}
use Rattle.plugs.specs.Changes.{Installs, IsNotInstalled, Removes, IsNotRemoved}
use Rattle.plugs.specs.Reading.{LooksUp, Leases}
use Rattle.plugs.proofs.CallerLemmas as plugs
use Rattle.notify.specs.declared.block.Block.{Block}
use Rattle.notify.specs.declared.refusals.RegisterRefusal.{RegisterRefusal}
use Rattle.notify.specs.declared.refusals.RegisterRefusal.TheVariants as register
use Rattle.notify.specs.declared.refusals.UnregisterRefusal.{UnregisterRefusal}
use Rattle.notify.specs.declared.refusals.UnregisterRefusal.TheVariants as unregister
use Rattle.notify.specs.Chains.{ChainState}
use Rattle.notify.specs.Changes.{Puts, Registers, RefusesRegister, Unregisters, RefusesUnregister}
use Rattle.srcu.specs.Workers.{AreWritersOf}

-- two facts of what came out
pub both_ok : {X E : Type 0} (r : Result X E) (P Q R : X → Type 0) → ((x : X) → P x → Q x → R x) → IfOk r P → IfOk r Q → IfOk r R
both_ok (Ok x) P Q R f p q = f x p q
both_ok (Err e) P Q R f p q = tt

-- a list, and perhaps one more
pub all_pushed : {X U E : Type 0} (P : X → Type 0) (xs ys : List X) (x : X) (r : Result U E) → ys ≡ cond (is_ok r) (xs ++ x ∷ []) xs → All P xs → P x → All P ys
all_pushed P xs ys x (Ok u) is all p = subst (All P) (sym is) (All-push P xs x all p)
all_pushed P xs ys x (Err e) is all p = subst (All P) (sym is) all

-- the writers of a new domain are those of its cells, none of which is one of boxes
pub new_writers : (d : DomainView) (cells slots : ℕ) (writers : List WriterView) → cells_in d.domain ≡ cells → AreNewWriters d.domain cells slots writers → AreWritersOf d writers
new_writers d cells slots writers many made = λ k w lt.
    let here = writers_here d.domain cells slots writers made k w lt in
    let there : k < cells = (let count = made.count in omega (arith, lt, count)) in
    ((here.0, subst (λ n. (get_or writers k w).cell < n) (sym many) here.1), ap (λ (z : WriterView). z.plan) (made.each k w there))

module _ {J : Type 0} where
  -- where the same readings are open, none is
  pub idle_still : (d : DomainView) (c c' : CpuView J) → IsIdle d c → IsKept c c' → IsIdle d c'
  idle_still d c c' idle k = (idle_kept d c c' idle k).idle

  -- Reading

  pub none_read : {T : Type 0} (value : List ℕ → T) (cell : ℕ) (c begun behind c' : CpuView J) (r r' : ReadingView) (x : T) → ReadLocks c.cpu begun.cpu r → Reads value cell r begun behind x → r' ≡ r → Unlocks r' behind.cpu c'.cpu → HasNoneOpen c → HasNoneOpen c'
  none_read value cell c begun behind c' r r' x locks reads same ends none = none_enclosed c begun behind c' r locks (shelf.open_read value cell r begun behind x reads) (subst (λ (z : ReadingView). Unlocks z behind.cpu c'.cpu) same ends) none

  pub idle_looked_up : {E : Type 0} (d : DomainView) (cell key : ℕ) (c c' : CpuView J) (r : Result (Option ℕ) E) → IsIdle d c → Stays c c' → MatchResult r (λ plug. LooksUp cell key plug c c') (λ _. LooksInVain c.cpu c'.cpu) → IsIdle d c'
  idle_looked_up d cell key c c' (Ok plug) idle stays h = record { here = stays d idle.here; closed = plugs.none_looked_up c c' h idle.closed }
  idle_looked_up d cell key c c' (Err e) idle stays h = record { here = stays d idle.here; closed = none_looked c c' h idle.closed }

  pub idle_leased : {E : Type 0} (d : DomainView) (cell : ℕ) (c c' : CpuView J) (r : Result LeaseView E) → IsIdle d c → Stays c c' → MatchResult r (λ lease. Leases cell lease c c') (λ _. LooksInVain c.cpu c'.cpu) → IsIdle d c'
  idle_leased d cell c c' (Ok lease) idle stays h = record { here = stays d idle.here; closed = plugs.none_leased c c' h idle.closed }
  idle_leased d cell c c' (Err e) idle stays h = record { here = stays d idle.here; closed = none_looked c c' h idle.closed }

  -- a held section is no reading, and of its processor's domain
  pub idle_downed : {E : Type 0} (d : DomainView) (c c' : CpuView J) (r : Result ReadingView E) → IsIdle d c → Stays c c' → MatchResult r (λ held. DownReads c.cpu c'.cpu held) (λ _. LooksInVain c.cpu c'.cpu) → IsIdle d c'
  idle_downed d c c' (Ok held) idle stays h = record { here = stays d idle.here; closed = none_held c c' held h idle.closed }
  idle_downed d c c' (Err e) idle stays h = record { here = stays d idle.here; closed = none_looked c c' h idle.closed }

  pub downed_here : {E : Type 0} (d : DomainView) (c c' : CpuView J) (r : Result ReadingView E) → IsIdle d c → MatchResult r (λ held. DownReads c.cpu c'.cpu held) (λ _. LooksInVain c.cpu c'.cpu) → IfOk r (λ held. held.domain ≡ d.domain)
  downed_here d c c' (Ok held) idle h = ap (λ (z : ReadingView). z.domain) h.enters.reading ∙ (h.looks.load.same.0 ∙ idle.here.domain)
  downed_here d c c' (Err e) idle h = tt

  pub leased_here : {E : Type 0} (d : DomainView) (cell : ℕ) (c c' : CpuView J) (r : Result LeaseView E) → IsIdle d c → MatchResult r (λ lease. Leases cell lease c c') (λ _. LooksInVain c.cpu c'.cpu) → IfOk r (λ lease. lease.held.domain ≡ d.domain)
  leased_here d cell c c' (Ok lease) idle h = ap (λ (z : ReadingView). z.domain) h.downs.enters.reading ∙ (h.downs.looks.load.same.0 ∙ idle.here.domain)
  leased_here d cell c c' (Err e) idle h = tt

  -- taking out what is ready opens no section
  pub idle_taken : {X E : Type 0} (d : DomainView) (changes p : ℕ) (c c' : CpuView J) (r : Result X E) → IsIdle d c → MatchResult r (λ _. ActsAs (takes changes p) c c') (λ _. ActsAs loads c c') → IsIdle d c'
  idle_taken d changes p c c' (Ok x) idle acts = idle_still d c c' idle (kept_plain c c' acts _ refl refl (λ s. refl))
  idle_taken d changes p c c' (Err e) idle acts = idle_still d c c' idle (kept_quiet c c' acts refl)

  -- nor does a look at the whole domain
  pub idle_snapped : {A E : Type 0} (d : DomainView) (c c' : CpuView J) (r : Result (Snapshot A) E) → IsIdle d c → IfOk r (λ s. ActsAs (notes (cookie_at s.number)) c c') → MatchResult r (λ s. Snaps s c c') (λ _. c' ≡ c) → IsIdle d c'
  idle_snapped d c c' (Ok s) idle acts snaps = idle_still d c c' idle (kept_plain c c' acts _ refl refl (λ n. refl))
  idle_snapped d c c' (Err e) idle acts same = subst (IsIdle d) (sym same) idle

  -- Changing

  none_found : (w w' : WriterView) (c c' : CpuView J) → FindsNone w c w' c' → HasNoneOpen c → HasNoneOpen c'
  none_found w w' c c' h none = none_still c c' (same_reclaimed w w' c.cpu c'.cpu h.frees.reclaims) none

  none_moved : (c c' : CpuView J) → c' ≡ c → HasNoneOpen c → HasNoneOpen c'
  none_moved c c' is none = subst (λ (z : CpuView J). HasNoneOpen z) (sym is) none

  pub none_replaced : {E : Type 0} (text : List ℕ) (w w' : WriterView) (c c' : CpuView J) (r : Result ℕ E) → MatchResult r (λ cookie. Replaces text cookie w c w' c') (λ _. FindsNone w c w' c') → HasNoneOpen c → HasNoneOpen c'
  none_replaced text w w' c c' (Ok cookie) h none = shelf.none_replaced text cookie w w' c c' h none
  none_replaced text w w' c c' (Err e) h none = none_found w w' c c' h none

  pub none_installed : (key plug : ℕ) (t t' : TableState) (c c' : CpuView J) (r : Result ℕ InstallRefusal) → MatchResult r (λ version. Installs key plug version t c t' c') (λ refusal. IsNotInstalled key refusal t c t' c') → HasNoneOpen c → HasNoneOpen c'
  none_installed key plug t t' c c' (Ok version) h none = plugs.none_published _ _ _ _ c c' h.publishes none
  none_installed key plug t t' c c' (Err install.Full) h none = none_moved c c' h.2 none
  none_installed key plug t t' c c' (Err install.NoSlot) h none = none_found _ _ c c' h.none none
  none_installed key plug t t' c c' (Err install.Memory) h none = absurd h

  pub none_removed : (key : ℕ) (t t' : TableState) (c c' : CpuView J) (r : Result ℕ RemoveRefusal) → MatchResult r (λ version. Removes key version t c t' c') (λ refusal. IsNotRemoved key refusal t c t' c') → HasNoneOpen c → HasNoneOpen c'
  none_removed key t t' c c' (Ok version) h none = plugs.none_published _ _ _ _ c c' h.publishes none
  none_removed key t t' c c' (Err remove.NotThere) h none = none_moved c c' h.2 none
  none_removed key t t' c c' (Err remove.NoSlot) h none = none_found _ _ c c' h.none none

  none_put : (s s' : ChainState) (c c' : CpuView J) → Puts s c s' c' → HasNoneOpen c → HasNoneOpen c'
  none_put s s' c c' h none =
      let put = h.publishes in
      none_still h.at c' (same_put h.slot.slot put.cookie put.filled s'.writer h.at.cpu c'.cpu put.puts.puts) (none_still c h.at (same_reclaimed s.writer h.finds.freed c.cpu h.at.cpu h.finds.frees.reclaims) none)

  pub none_registered : {U : Type 0} (block : Block) (s s' : ChainState) (c c' : CpuView J) (r : Result U RegisterRefusal) → MatchResult r (λ _. Registers block s c s' c') (λ e. RefusesRegister block.id e s c s' c') → HasNoneOpen c → HasNoneOpen c'
  none_registered block s s' c c' (Ok u) h none = none_put s s' c c' h.puts none
  none_registered block s s' c c' (Err register.There) h none = none_moved c c' h.nothing.cpu none
  none_registered block s s' c c' (Err register.Full) h none = none_moved c c' h.nothing.cpu none
  none_registered block s s' c c' (Err register.NoSlot) h none = none_found _ _ c c' h.none.finds none
  none_registered block s s' c c' (Err register.Memory) h none = absurd h

  pub none_unregistered : {U : Type 0} (id : ℕ) (s s' : ChainState) (c c' : CpuView J) (r : Result U UnregisterRefusal) → MatchResult r (λ _. Unregisters id s c s' c') (λ e. RefusesUnregister id e s c s' c') → HasNoneOpen c → HasNoneOpen c'
  none_unregistered id s s' c c' (Ok u) h none = none_put s s' c c' h.puts none
  none_unregistered id s s' c c' (Err unregister.NotThere) h none = none_moved c c' h.nothing.cpu none
  none_unregistered id s s' c c' (Err unregister.NoSlot) h none = none_found _ _ c c' h.none.finds none
