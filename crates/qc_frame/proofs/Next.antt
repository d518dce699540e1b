-- A log that stands on its file, and what is found at its gate.
use Rattle.std.proofs.Common.{◌≡◌, ℕ, zero, suc, ◌+◌, ◌<◌, ◌≤◌, max, List, [], ◌∷◌, ◌++◌, length, take, drop, refl, sym, ◌∙◌, ap, subst, arith, append_assoc, length-append, take-append-drop, true}
use Rattle.std.specs.List.{flat_map}
use Rattle.std.proofs.lemmas.List.{drop_at, drop-drop, length-take-le, length-drop}
use Rattle.qc_site.specs.Image.{Image, bytes_of, with_bytes}
use Rattle.qc_site.specs.Disk.{written, Images, Certain, FileStep}
use Rattle.qc_frame.specs.Frame.{groups_past, groups_at, group, size_bytes, IsPayload, Leads, EntriesOf, StopsBefore}
use Rattle.qc_frame.specs.declared.entries.Entry.{Entry}
use Rattle.qc_frame.specs.Found.{OpenFor}
use Rattle.qc_frame.specs.Gate.{ShutAt, After}
use Rattle.qc_frame.specs.Log.{LogView, StandsOn, SameFrom, NextGroup, NoGroup, DamagedGroup}
use Rattle.qc_frame.proofs.Groups.{groups_closed, groups_group, rest_at, led_by, led_on, length-size_bytes}
use Rattle.qc_frame.proofs.Closing.{same_log, shut_written, length-written}

module _ (file : List ℕ) (images : Images) (log : LogView) (st : StandsOn file images log) where
  pub place_inside : log.place ≤ length file
  place_inside = omega (arith, ap length st.led.is, length-append st.led.front (flat_map group st.payloads ++ st.led.rest), length-append (flat_map group st.payloads) st.led.rest, st.led.long, st.led.at)

  -- an open group stands there
  module _ (size : ℕ) (found : OpenFor size (drop log.place file)) where
    abbrev pub payload : List ℕ
    payload = take size found.more

    pub long : length (take size found.more) ≡ size
    long = length-take-le size found.more (omega (arith, found.inside))

    pub inside : log.place + 5 + size < length file
    inside = omega (arith, found.inside, ap length found.is, length-append (size_bytes size) found.more, length-size_bytes size, length-drop log.place file, place_inside)

    pub fits : IsPayload (take size found.more)
    fits = (omega (arith, long, found.some), omega (arith, long, found.most))

    pub here : drop log.place file ≡ group (take size found.more) ++ drop size found.more
    here = found.is
        ∙ ap (λ (l : List ℕ). 1 ∷ (size_bytes size ++ l)) (sym (take-append-drop size found.more))
        ∙ ap (λ (l : List ℕ). 1 ∷ l) (sym (append_assoc (size_bytes size) (take size found.more) (drop size found.more)))
        ∙ ap (λ n. 1 ∷ (size_bytes n ++ take size found.more ++ drop size found.more)) (sym long)

    pub more : 1 ≤ length (drop size found.more)
    more = omega (arith, length-drop size found.more, found.inside)

    pub read : take size (drop (log.place + 5) file) ≡ take size found.more
    read = ap (λ (l : List ℕ). take size l) (sym (drop-drop 5 log.place file) ∙ ap (λ (l : List ℕ). drop 5 l) found.is ∙ drop_at (1 ∷ size_bytes size) found.more 5 (ap suc (length-size_bytes size)))

    pub behind : drop (log.place + 5 + size) file ≡ drop size found.more
    behind = ap (λ n. drop n file) (places log.place size) ∙ sym (drop-drop (5 + size) log.place file) ∙ ap (λ (l : List ℕ). drop (5 + size) l) here ∙ drop_at (group (take size found.more)) (drop size found.more) (5 + size) (omega (arith, length-append (size_bytes (length (take size found.more))) (take size found.more), length-size_bytes (length (take size found.more)), long))
      where
        places : (p n : ℕ) → p + 5 + n ≡ p + (5 + n)
        places p n = omega arith

    pub next : groups_at file log.place ≡ take size found.more ∷ groups_at file (log.place + 5 + size)
    next = ap (λ (l : List ℕ). groups_past zero l) here ∙ groups_group (take size found.more) (drop size found.more) fits more ∙ ap (λ (l : List ℕ). take size found.more ∷ groups_past zero l) (sym behind)

    pub next_group : (new : LogView) (entries : List Entry) → new ≡ record log { place = log.place + 5 + size } → EntriesOf (log.place + 5) entries (take size (drop (log.place + 5) file)) → NextGroup file log new log.place entries
    next_group new entries is spelled = record {
      payload = take size found.more;
      here = refl;
      next = subst (λ (x : LogView). groups_at file log.place ≡ take size found.more ∷ groups_at file x.place) (sym is) next;
      spelled = subst (λ (l : List ℕ). EntriesOf (log.place + 5) entries l) read spelled;
      log = is ∙ ap (λ n. record log { place = log.place + 5 + n }) (sym long);
    }

    pub damaged : (at : ℕ) → StopsBefore (log.place + 5) at (take size (drop (log.place + 5) file)) → DamagedGroup file log.place at
    damaged at stops = record {
      payload = take size found.more;
      next = next ∙ ap (λ n. take size found.more ∷ groups_at file (log.place + 5 + n)) (sym long);
      stops = subst (λ (l : List ℕ). StopsBefore (log.place + 5) at l) read stops;
    }

    abbrev pub led_next : Leads file log.start (log.place + 5 + length (take size found.more)) (st.payloads ++ take size found.more ∷ [])
    led_next = led_on file file log.place st.payloads st.led (take size found.more) (drop size found.more) fits (sym (take-append-drop log.place file) ∙ ap (λ (l : List ℕ). take log.place file ++ l) here) more

    -- a log behind the end isn't before an open group
    pub not_ended : log.ended ≡ true → ⊥
    not_ended e =
        let shut = st.closed e in
        let both : 0 ∷ shut.0 ≡ 1 ∷ (size_bytes size ++ found.more) = sym shut.1 ∙ sym (rest_at file log.place st.payloads st.led) ∙ found.is in
        cc

    pub stands_next : (later : Images) (new : LogView) → new ≡ record log { place = log.place + 5 + size } → Certain log.file file later → StandsOn file later new
    stands_next later new is certain = subst (λ (x : LogView). StandsOn file later x) (sym is) (record {
      size = st.size;
      certain = certain;
      behind = st.behind;
      payloads = st.payloads ++ take size found.more ∷ [];
      led = record {
        front = led_next.front;
        rest = led_next.rest;
        is = led_next.is;
        long = led_next.long;
        sized = led_next.sized;
        at = ap (λ n. log.place + 5 + n) (sym long) ∙ led_next.at;
        further = led_next.further;
      };
      closed = λ e. absurd (not_ended e);
    })

  -- a gate with 0 stands there
  pub stands_zero : (later : Images) (new : LogView) (bytes : List ℕ) → new ≡ record log { ended = true } → drop log.place file ≡ 0 ∷ bytes → Certain log.file file later → StandsOn file later new
  stands_zero later new bytes is shut certain = subst (λ (x : LogView). StandsOn file later x) (sym is) (record {
    size = st.size;
    certain = certain;
    behind = st.behind;
    payloads = st.payloads;
    led = st.led;
    closed = λ e. (bytes, sym (rest_at file log.place st.payloads st.led) ∙ shut);
  })

  -- a byte 0 over a 0 changes nothing
  pub written_zero : (bytes : List ℕ) → drop log.place file ≡ 0 ∷ bytes → file ≡ written file log.place (0 ∷ [])
  written_zero bytes shut =
      let behind : drop (log.place + 1) file ≡ bytes = sym (ap (λ (l : List ℕ). drop 1 l) (sym shut) ∙ drop-drop 1 log.place file) in
      sym (take-append-drop log.place file) ∙ ap (λ (l : List ℕ). take log.place file ++ l) (shut ∙ ap (λ (l : List ℕ). 0 ∷ l) (sym behind)) ∙ sym (append_assoc (take log.place file) (0 ∷ []) (drop (log.place + 1) file))

  pub no_group_zero : (new : LogView) (bytes : List ℕ) → new ≡ record log { ended = true } → drop log.place file ≡ 0 ∷ bytes → NoGroup file file log new
  no_group_zero new bytes is shut = record {
    none = ap (λ (l : List ℕ). groups_past zero l) shut ∙ groups_closed 0 bytes (omega arith);
    bytes = written_zero bytes shut;
    same = record { front = refl; followed = λ lt. lt; same = refl };
    log = is ∙ ap (λ n. record log { length = n; ended = true }) st.size;
  }

  -- the gate is closed by a byte 0
  pub same_shut : (new : List ℕ) → groups_past zero (drop log.place file) ≡ [] → ShutAt log.place file new → SameFrom log.start file new
  same_shut new none at = same_log file new log.place st.payloads st.led none at

  pub no_group : (new : LogView) → new ≡ record log { length = max log.length (log.place + 1); ended = true } → groups_past zero (drop log.place file) ≡ [] → NoGroup file (written file log.place (0 ∷ [])) log new
  no_group new is none = record {
    none = none;
    bytes = refl;
    same = same_shut (written file log.place (0 ∷ [])) none (shut_written log.place file place_inside);
    log = is ∙ ap (λ n. record log { length = n; ended = true }) (ap (λ n. max n (log.place + 1)) st.size ∙ sym (length-written log.place file place_inside));
  }

  pub shut_step : (shown now : Image) → groups_past zero (drop log.place file) ≡ [] → bytes_of log.file shown ≡ file → now ≡ with_bytes log.file (written file log.place (0 ∷ [])) shown → FileStep log.file (SameFrom log.start) shown now
  shut_step shown now none there is = record {
    bytes = written file log.place (0 ∷ []);
    is = is;
    by = subst (λ (l : List ℕ). SameFrom log.start l (written file log.place (0 ∷ []))) (sym there) (same_shut (written file log.place (0 ∷ [])) none (shut_written log.place file place_inside));
  }

  abbrev pub led_shut : Leads (written file log.place (0 ∷ [])) log.start log.place st.payloads
  led_shut = led_by file (written file log.place (0 ∷ [])) log.place st.payloads st.led (0 ∷ drop (log.place + 1) file) (append_assoc (take log.place file) (0 ∷ []) (drop (log.place + 1) file)) (omega arith)

  pub stands_shut : (later : Images) (new : LogView) → new ≡ record log { length = max log.length (log.place + 1); ended = true } → Certain log.file (written file log.place (0 ∷ [])) later → StandsOn (written file log.place (0 ∷ [])) later new
  stands_shut later new is certain = subst (λ (x : LogView). StandsOn (written file log.place (0 ∷ [])) later x) (sym is) (record {
    size = ap (λ n. max n (log.place + 1)) st.size ∙ sym (length-written log.place file place_inside);
    certain = certain;
    behind = st.behind;
    payloads = st.payloads;
    led = led_shut;
    closed = λ e. (drop (log.place + 1) file, refl);
  })

  -- each image while it is closed has the same groups
  pub each_closing : (before mid : Images) → ((c : Image) → mid c → before c) → Certain log.file file mid → groups_past zero (drop log.place file) ≡ [] → (c : Image) → After log.file (ShutAt log.place) mid c → After log.file (SameFrom log.start) before c
  each_closing before mid fewer certain none c from = (
    from.0,
    fewer from.0 from.1,
    record {
      bytes = from.2.bytes;
      is = from.2.is;
      by = subst (λ (l : List ℕ). SameFrom log.start l from.2.bytes) (sym (certain from.0 from.1))
          (same_shut from.2.bytes none (subst (λ (l : List ℕ). ShutAt log.place l from.2.bytes) (certain from.0 from.1) from.2.by));
    },
  )
