use Rattle.std.proofs.Common.{◌≡◌, ◌∙◌, ℕ, ◌+◌, ◌-◌, List, [], ◌∷◌, ◌++◌, length, Bool, false, not, cond, Option, Result, Ok, Err, option_map, is_some, sym, ap, subst, append_assoc}
use Rattle.std.proofs.lemmas.List.{length_push}
use Rattle.qc_base.specs.LogLines.{Registration, is_registered, is_opened}
use Rattle.qc_base.specs.declared.log_line.LogLine.{LogLine}
use Rattle.qc_base.specs.declared.log_line.LogLine.TheVariants.{Opened, Registered}
use Rattle.qc_entries.specs.Entries.{EntriesView}
use Rattle.crm_log.specs.Log.{LinesWait}
use Rattle.crm_clerk.specs.declared.error.ClerkError.{ClerkError}
use Rattle.crm_clerk.specs.declared.error.ClerkError.TheVariants.{AlreadyRegistered}
use Rattle.crm_clerk.specs.Accounts.{Account, BookView, account_of, new_account}
use Rattle.crm_clerk.specs.Calls.{HasStaged, registers}
use Rattle.crm_clerk.specs.Clerk.{ClerkView, unless, opening_lines, registering_lines}
use Rattle.crm_clerk.specs.Keeps.{Keeps}
use Rattle.crm_clerk.specs.Staging.{HasRoomFor, TakesRoom, staged_lines}
use Rattle.crm_clerk.proofs.Keeping.{is-registered, mapped-is, opened-told, registered-on}
use Rattle.crm_clerk.proofs.Rooms.{staged-append, takes-on, room-front, room-behind}
use Rattle.crm_clerk.proofs.clerk.Clerk.register.Goals as goal

pub returns-then-is_some-clause-answer : goal.returns-then-is_some-clause-answer
returns-then-is_some-clause-answer c =
    let k = c.self.inside in
    let resource = c.args.resource.now in
    let v : ClerkView = record { attempt = k.attempt; id = k.id; lines = k.lines.lines; room = k.book.room } in
    let view : v ≡ c.args.self.now = c.self.view_is in
    let written : option_map (λ (a : Account). a.written) (account_of resource k.book.accounts) ≡ c.written.result = sym c.written.ensures in
    let there : is_some c.written.result ≡ is_registered k.lines.lines k.attempt resource =
    ap (λ (o : Option ℕ). is_some o) c.written.ensures ∙ mapped-is (λ (a : Account). a.written) (account_of resource k.book.accounts) ∙ is-registered k.attempt k.lines.lines k.book.accounts resource c.self.invariant in
    let answer : Bool → Result Unit ClerkError = λ b. cond b (Err AlreadyRegistered) (Ok tt) in
    sym (ap answer (sym there ∙ sym c.is_some.ensures ∙ c.if-is_some.true)) ∙ ap (λ (x : ClerkView). registers x resource) view

pub stage_opened-requires-clause-log : goal.stage_opened-requires-clause-log
stage_opened-requires-clause-log c =
    let k = c.self.inside in
    let resource = c.args.resource.now in
    let v : ClerkView = record { attempt = k.attempt; id = k.id; lines = k.lines.lines; room = k.book.room } in
    let view : v ≡ c.args.self.now = c.self.view_is in
    let written : option_map (λ (a : Account). a.written) (account_of resource k.book.accounts) ≡ c.written.result = sym c.written.ensures in
    let there : is_some c.written.result ≡ is_registered k.lines.lines k.attempt resource =
    ap (λ (o : Option ℕ). is_some o) c.written.ensures ∙ mapped-is (λ (a : Account). a.written) (account_of resource k.book.accounts) ∙ is-registered k.attempt k.lines.lines k.book.accounts resource c.self.invariant in
    let new : is_registered k.lines.lines k.attempt resource ≡ false = sym there ∙ sym c.is_some.ensures ∙ c.if-is_some.false in
    let opening : List LogLine = opening_lines k.lines.lines k.attempt k.id in
    let told : not c.is_empty-opened.result ≡ is_opened k.lines.lines k.attempt =
    ap not c.is_empty-opened.ensures ∙ opened-told k.attempt k.lines.lines k.book.accounts c.registered.result.now c.self.invariant c.registered.ensures in
    let opened : unless (not c.is_empty-opened.result) (Opened k.attempt k.id) ≡ opening = ap (λ (b : Bool). unless b (Opened k.attempt k.id)) told in
    let line : LogLine = Registered k.attempt resource c.args.phases in
    let long : length (registering_lines c.args.self.now resource c.args.phases) ≡ length opening + 1 = ap (λ (x : ClerkView). length (registering_lines x resource c.args.phases)) (sym view) ∙ length_push opening line in
    let has : HasRoomFor (length opening + 1) c.args.log.now = subst (λ (n : ℕ). HasRoomFor n c.args.log.now) long c.requires.log in
    let some : ℕ = length (unless (not c.is_empty-opened.result) (Opened k.attempt k.id)) in
    let size : some ≡ length opening = ap length opened in
    subst (λ (n : ℕ). HasRoomFor n c.args.log.now) (sym size) (room-front (length opening) 1 c.args.log.now has)

pub stage-requires-clause-log : goal.stage-requires-clause-log
stage-requires-clause-log c =
    let k = c.self.inside in
    let resource = c.args.resource.now in
    let v : ClerkView = record { attempt = k.attempt; id = k.id; lines = k.lines.lines; room = k.book.room } in
    let view : v ≡ c.args.self.now = c.self.view_is in
    let written : option_map (λ (a : Account). a.written) (account_of resource k.book.accounts) ≡ c.written.result = sym c.written.ensures in
    let there : is_some c.written.result ≡ is_registered k.lines.lines k.attempt resource =
    ap (λ (o : Option ℕ). is_some o) c.written.ensures ∙ mapped-is (λ (a : Account). a.written) (account_of resource k.book.accounts) ∙ is-registered k.attempt k.lines.lines k.book.accounts resource c.self.invariant in
    let new : is_registered k.lines.lines k.attempt resource ≡ false = sym there ∙ sym c.is_some.ensures ∙ c.if-is_some.false in
    let opening : List LogLine = opening_lines k.lines.lines k.attempt k.id in
    let told : not c.is_empty-opened.result ≡ is_opened k.lines.lines k.attempt =
    ap not c.is_empty-opened.ensures ∙ opened-told k.attempt k.lines.lines k.book.accounts c.registered.result.now c.self.invariant c.registered.ensures in
    let opened : unless (not c.is_empty-opened.result) (Opened k.attempt k.id) ≡ opening = ap (λ (b : Bool). unless b (Opened k.attempt k.id)) told in
    let line : LogLine = Registered k.attempt resource c.args.phases in
    let long : length (registering_lines c.args.self.now resource c.args.phases) ≡ length opening + 1 = ap (λ (x : ClerkView). length (registering_lines x resource c.args.phases)) (sym view) ∙ length_push opening line in
    let has : HasRoomFor (length opening + 1) c.args.log.now = subst (λ (n : ℕ). HasRoomFor n c.args.log.now) long c.requires.log in
    let some : ℕ = length (unless (not c.is_empty-opened.result) (Opened k.attempt k.id)) in
    let size : some ≡ length opening = ap length opened in
    let took : TakesRoom (length opening) c.args.log.now c.stage_opened.new.log = subst (λ (n : ℕ). TakesRoom n c.args.log.now c.stage_opened.new.log) size c.stage_opened.ensures.room in
    room-behind (length opening) 1 c.args.log.now c.stage_opened.new.log has took

pub invariant_of-self : goal.invariant_of-self
invariant_of-self c =
    let k = c.self.inside in
    let resource = c.args.resource.now in
    let v : ClerkView = record { attempt = k.attempt; id = k.id; lines = k.lines.lines; room = k.book.room } in
    let view : v ≡ c.args.self.now = c.self.view_is in
    let written : option_map (λ (a : Account). a.written) (account_of resource k.book.accounts) ≡ c.written.result = sym c.written.ensures in
    let there : is_some c.written.result ≡ is_registered k.lines.lines k.attempt resource =
    ap (λ (o : Option ℕ). is_some o) c.written.ensures ∙ mapped-is (λ (a : Account). a.written) (account_of resource k.book.accounts) ∙ is-registered k.attempt k.lines.lines k.book.accounts resource c.self.invariant in
    let new : is_registered k.lines.lines k.attempt resource ≡ false = sym there ∙ sym c.is_some.ensures ∙ c.if-is_some.false in
    let opening : List LogLine = opening_lines k.lines.lines k.attempt k.id in
    let told : not c.is_empty-opened.result ≡ is_opened k.lines.lines k.attempt =
    ap not c.is_empty-opened.ensures ∙ opened-told k.attempt k.lines.lines k.book.accounts c.registered.result.now c.self.invariant c.registered.ensures in
    let opened : unless (not c.is_empty-opened.result) (Opened k.attempt k.id) ≡ opening = ap (λ (b : Bool). unless b (Opened k.attempt k.id)) told in
    let line : LogLine = Registered k.attempt resource c.args.phases in
    let long : length (registering_lines c.args.self.now resource c.args.phases) ≡ length opening + 1 = ap (λ (x : ClerkView). length (registering_lines x resource c.args.phases)) (sym view) ∙ length_push opening line in
    let has : HasRoomFor (length opening + 1) c.args.log.now = subst (λ (n : ℕ). HasRoomFor n c.args.log.now) long c.requires.log in
    let some : ℕ = length (unless (not c.is_empty-opened.result) (Opened k.attempt k.id)) in
    let size : some ≡ length opening = ap length opened in
    let lines : c.stage.new.lines.lines ≡ k.lines.lines ++ opening ++ line ∷ [] = c.stage.ensures.lines ∙ ap (λ (l : List LogLine). l ++ line ∷ []) (c.stage_opened.ensures.lines ∙ ap (λ (l : List LogLine). k.lines.lines ++ l) opened) in
    let one : Registration = record { resource = resource; phases = c.args.phases } in
    let kept = registered-on k.attempt k.id k.lines.lines k.book.accounts one c.self.invariant new in
    subst (λ (l : List Account). Keeps k.attempt c.stage.new.lines.lines l) (sym (ap (λ (b : BookView). b.accounts) c.add.ensures))
    (subst (λ (l : List LogLine). Keeps k.attempt l (k.book.accounts ++ new_account resource c.args.phases ∷ [])) (sym lines) kept)

pub returns-clause-answer : goal.returns-clause-answer
returns-clause-answer c =
    let k = c.self.inside in
    let resource = c.args.resource.now in
    let v : ClerkView = record { attempt = k.attempt; id = k.id; lines = k.lines.lines; room = k.book.room } in
    let view : v ≡ c.args.self.now = c.self.view_is in
    let written : option_map (λ (a : Account). a.written) (account_of resource k.book.accounts) ≡ c.written.result = sym c.written.ensures in
    let there : is_some c.written.result ≡ is_registered k.lines.lines k.attempt resource =
    ap (λ (o : Option ℕ). is_some o) c.written.ensures ∙ mapped-is (λ (a : Account). a.written) (account_of resource k.book.accounts) ∙ is-registered k.attempt k.lines.lines k.book.accounts resource c.self.invariant in
    let new : is_registered k.lines.lines k.attempt resource ≡ false = sym there ∙ sym c.is_some.ensures ∙ c.if-is_some.false in
    let opening : List LogLine = opening_lines k.lines.lines k.attempt k.id in
    let told : not c.is_empty-opened.result ≡ is_opened k.lines.lines k.attempt =
    ap not c.is_empty-opened.ensures ∙ opened-told k.attempt k.lines.lines k.book.accounts c.registered.result.now c.self.invariant c.registered.ensures in
    let opened : unless (not c.is_empty-opened.result) (Opened k.attempt k.id) ≡ opening = ap (λ (b : Bool). unless b (Opened k.attempt k.id)) told in
    let line : LogLine = Registered k.attempt resource c.args.phases in
    let long : length (registering_lines c.args.self.now resource c.args.phases) ≡ length opening + 1 = ap (λ (x : ClerkView). length (registering_lines x resource c.args.phases)) (sym view) ∙ length_push opening line in
    let has : HasRoomFor (length opening + 1) c.args.log.now = subst (λ (n : ℕ). HasRoomFor n c.args.log.now) long c.requires.log in
    let some : ℕ = length (unless (not c.is_empty-opened.result) (Opened k.attempt k.id)) in
    let size : some ≡ length opening = ap length opened in
    let answer : Bool → Result Unit ClerkError = λ b. cond b (Err AlreadyRegistered) (Ok tt) in
    sym (ap answer new) ∙ ap (λ (x : ClerkView). registers x resource) view

pub returns-clause-stages : goal.returns-clause-stages
returns-clause-stages c =
    let k = c.self.inside in
    let resource = c.args.resource.now in
    let v : ClerkView = record { attempt = k.attempt; id = k.id; lines = k.lines.lines; room = k.book.room } in
    let view : v ≡ c.args.self.now = c.self.view_is in
    let written : option_map (λ (a : Account). a.written) (account_of resource k.book.accounts) ≡ c.written.result = sym c.written.ensures in
    let there : is_some c.written.result ≡ is_registered k.lines.lines k.attempt resource =
    ap (λ (o : Option ℕ). is_some o) c.written.ensures ∙ mapped-is (λ (a : Account). a.written) (account_of resource k.book.accounts) ∙ is-registered k.attempt k.lines.lines k.book.accounts resource c.self.invariant in
    let new : is_registered k.lines.lines k.attempt resource ≡ false = sym there ∙ sym c.is_some.ensures ∙ c.if-is_some.false in
    let opening : List LogLine = opening_lines k.lines.lines k.attempt k.id in
    let told : not c.is_empty-opened.result ≡ is_opened k.lines.lines k.attempt =
    ap not c.is_empty-opened.ensures ∙ opened-told k.attempt k.lines.lines k.book.accounts c.registered.result.now c.self.invariant c.registered.ensures in
    let opened : unless (not c.is_empty-opened.result) (Opened k.attempt k.id) ≡ opening = ap (λ (b : Bool). unless b (Opened k.attempt k.id)) told in
    let line : LogLine = Registered k.attempt resource c.args.phases in
    let long : length (registering_lines c.args.self.now resource c.args.phases) ≡ length opening + 1 = ap (λ (x : ClerkView). length (registering_lines x resource c.args.phases)) (sym view) ∙ length_push opening line in
    let has : HasRoomFor (length opening + 1) c.args.log.now = subst (λ (n : ℕ). HasRoomFor n c.args.log.now) long c.requires.log in
    let some : ℕ = length (unless (not c.is_empty-opened.result) (Opened k.attempt k.id)) in
    let size : some ≡ length opening = ap length opened in
    let lines : c.stage.new.lines.lines ≡ k.lines.lines ++ (opening ++ line ∷ []) =
    c.stage.ensures.lines ∙ ap (λ (l : List LogLine). l ++ line ∷ []) (c.stage_opened.ensures.lines ∙ ap (λ (l : List LogLine). k.lines.lines ++ l) opened) ∙ append_assoc k.lines.lines opening (line ∷ []) in
    let now : ClerkView = record { attempt = k.attempt; id = k.id; lines = c.stage.new.lines.lines; room = c.add.new.self.room } in
    let after : EntriesView = c.stage.new.log in
    let room : c.add.new.self.room ≡ k.book.room - 1 = ap (λ (b : BookView). b.room) c.add.ensures in
    let log : c.stage_opened.new.log ≡ staged_lines c.args.log.now opening = c.stage_opened.ensures.log ∙ ap (λ (l : List LogLine). staged_lines c.args.log.now l) opened in
    let staged : HasStaged (opening ++ line ∷ []) 1 v c.args.log.now now after = record {
      clerk = λ i. record { attempt = k.attempt; id = k.id; lines = lines i; room = room i };
      log = c.stage.ensures.log ∙ ap (λ (x : EntriesView). staged_lines x (line ∷ [])) log ∙ sym (staged-append c.args.log.now opening (line ∷ []));
      room =
          let took : TakesRoom (length opening) c.args.log.now c.stage_opened.new.log = subst (λ (n : ℕ). TakesRoom n c.args.log.now c.stage_opened.new.log) size c.stage_opened.ensures.room in
          subst (λ (n : ℕ). TakesRoom n c.args.log.now after) (sym (length_push opening line)) (takes-on (length opening) 1 c.args.log.now c.stage_opened.new.log after took c.stage.ensures.room);
      waits = λ before h.
          let first : LinesWait c.stage_opened.new.log (before ++ opening) = subst (λ (l : List LogLine). LinesWait c.stage_opened.new.log (before ++ l)) opened (c.stage_opened.ensures.waits before h) in
          subst (λ (l : List LogLine). LinesWait after l) (append_assoc before opening (line ∷ [])) (c.stage.ensures.waits (before ++ opening) first);
    } in
    record { staged = subst (λ (x : ClerkView). HasStaged (registering_lines x resource c.args.phases) 1 x c.args.log.now now after) view staged; unchanged = tt }
