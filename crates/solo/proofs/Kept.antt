-- Behind a call of a chain the processor is the same.
use Rattle.std.proofs.Common.{◌≡◌, ℕ, List, refl, sym, ap, ◌∙◌, subst}
use Rattle.solo.proofs.Words.{Result, Ok, Err, MatchResult, WriterView, SlotView, Exhausted, IsSameCpu, IsSameSeat, CpuView, Act, Acts, stays, Block, RegisterRefusal, UnregisterRefusal, ChainState, ChainCell, Frees, Claims, Puts, ReadsOnce, Lists, Calls, IsRefused}
use Rattle.notify.specs.declared.refusals.RegisterRefusal.TheVariants as register
use Rattle.notify.specs.declared.refusals.UnregisterRefusal.TheVariants as unregister
use Rattle.notify.specs.Changes.{Registers, RefusesRegister, Unregisters, RefusesUnregister}

module _ {J : Type 0} where
  pub record IsKept (c d : CpuView J) : Type 0 where
    pub cpu : IsSameCpu c.cpu d.cpu
    pub needs : IsSameSeat c.needs d.needs

  pub kept_on : (c d e : CpuView J) → IsKept c d → IsKept d e → IsKept c e
  kept_on c d e a b = record {
    cpu = (b.cpu.0 ∙ a.cpu.0, b.cpu.1 ∙ a.cpu.1, b.cpu.2 ∙ a.cpu.2, b.cpu.3 ∙ a.cpu.3);
    needs = record { domain = b.needs.domain ∙ a.needs.domain; shape = b.needs.shape ∙ a.needs.shape; holder = b.needs.holder ∙ a.needs.holder };
  }

  pub by_act : (p : ℕ) (a : Act) (c d : CpuView J) → Acts p a c d → IsKept c d
  by_act p a c d h = record { cpu = h.events.same; needs = h.needs.same }

  pub by_itself : (c d : CpuView J) → d ≡ c → IsKept c d
  by_itself c d same = subst (λ (x : CpuView J). IsKept c x) (sym same) (record { cpu = (refl, refl, refl, refl); needs = (stays c.needs c.needs refl).same })

  pub by_freeing : {w w' : WriterView} {c d : CpuView J} → Frees w c w' d → IsKept c d
  by_freeing {w} {w'} {c} {d} h = record { cpu = h.reclaims.same.1; needs = (stays c.needs d.needs (ap (λ (x : CpuView J). x.needs) h.rest)).same }

  pub by_putting : {slot : SlotView} {words : List ℕ} {w given w' : WriterView} {c at d : CpuView J} → Claims slot w c given at → Puts slot.slot words given at w' d → IsKept c d
  by_putting {slot} {words} {w} {given} {w'} {c} {at} {d} finds publishes = kept_on c at d (by_freeing finds.frees)
      (kept_on at publishes.acts.between d (by_act _ _ at publishes.acts.between publishes.acts.put) (by_act _ _ publishes.acts.between d publishes.acts.next))

  pub by_register : {T : Type 0} (id : ℕ) (block : Block) (s s' : ChainState) (c d : CpuView J) (r : Result T RegisterRefusal) → MatchResult r (λ _. Registers block s c s' d) (λ e. RefusesRegister id e s c s' d) → IsKept c d
  by_register id block s s' c d (Ok x) h = by_putting h.puts.finds h.puts.publishes
  by_register id block s s' c d (Err register.There) h = by_itself c d h.nothing.cpu
  by_register id block s s' c d (Err register.Full) h = by_itself c d h.nothing.cpu
  by_register id block s s' c d (Err register.NoSlot) h = by_freeing h.none.finds.frees
  by_register id block s s' c d (Err register.Memory) h = absurd h

  pub by_unregister : {T : Type 0} (id : ℕ) (s s' : ChainState) (c d : CpuView J) (r : Result T UnregisterRefusal) → MatchResult r (λ _. Unregisters id s c s' d) (λ e. RefusesUnregister id e s c s' d) → IsKept c d
  by_unregister id s s' c d (Ok x) h = by_putting h.puts.finds h.puts.publishes
  by_unregister id s s' c d (Err unregister.NotThere) h = by_itself c d h.nothing.cpu
  by_unregister id s s' c d (Err unregister.NoSlot) h = by_freeing h.none.finds.frees

  by_reading : (v : ChainCell) (c d : CpuView J) {blocks : List Block} → ReadsOnce v c d blocks → IsKept c d
  by_reading v c d h = kept_on c h.begun d (by_act _ _ c h.begun h.acts)
      (kept_on h.begun h.reads.between d (by_act _ _ h.begun h.reads.between h.reads.acts)
      (kept_on h.reads.between h.behind d (by_act _ _ h.reads.between h.behind h.reads.loads.acts) (by_act _ _ h.behind d h.closes)))

  pub by_ids : (v : ChainCell) (c d : CpuView J) (r : Result (List ℕ × ℕ) Exhausted) → MatchResult r (λ r. Lists v c d r.0 r.1) (λ _. IsRefused c d) → IsKept c d
  by_ids v c d (Ok r) h = by_reading v c d h.reads
  by_ids v c d (Err x) h = by_act _ _ c d h.acts

  pub by_calling : (gives : ℕ → ℕ → Type 0) (v : ChainCell) (c d : CpuView J) (r : Result (ℕ × ℕ) Exhausted) → MatchResult r (λ r. Calls gives v c d r.0 r.1) (λ _. IsRefused c d) → IsKept c d
  by_calling gives v c d (Ok r) h = by_reading v c d h.reads
  by_calling gives v c d (Err x) h = by_act _ _ c d h.acts
