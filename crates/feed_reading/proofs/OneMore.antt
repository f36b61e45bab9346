-- One field after others: what its kind says of them all.
use Rattle.std.proofs.Common.{append_assoc, ◌≡◌, ◌≢◌, ◌==◌, Bool, ℕ, ◌≤◌, List, [], ◌∷◌, ◌++◌, length, refl, sym, ap, subst, ◌∙◌}
use Rattle.std.proofs.lemmas.Bool.{ne_eqb}
use Rattle.std.proofs.lemmas.List.{append-nil}
use Rattle.std.proofs.lemmas.List.Elements.{filter_map-append}
use Rattle.std.specs.Prelude.{Option, Some, None, IsUtf8, if◌then◌else◌}
use Rattle.std.specs.List.{cons_option, last_or, AllByRecursion, AllZip, concat}
use Rattle.wire_fields.specs.Grammar.{Payload, WireField, AreFields}
use Rattle.feed_reading.specs.declared.quick.found.Found.{Found}
use Rattle.feed_reading.specs.declared.quick.found.Found.TheVariants.{Joined}
use Rattle.feed_reading.specs.Meaning.{number_in, body_in, payloads, numbers, bodies, Means, IsJoined, AreBodies, AreMessages, IsUint64, IsText}
use Rattle.feed_reading.specs.Limits.{entity_limit}
use Rattle.feed_reading.specs.Partly.{AreShort, IsFoundIn, IsFound, AreShortEntities}
use Rattle.feed_reading.specs.Tables.{OfFeedEntity}
use Rattle.gw_base.specs.declared.messages.Entity.{Entity}
use Rattle.gw_base.proofs.Elements.{all_append}
use Rattle.feed_reading.proofs.Building.{AllZip-push, one_body}

-- what a field holds that has the number
abbrev pub holds : {X : Type 0} → (Payload → Option X) → ℕ → WireField → Option X
holds what number field = if field.number == number then what field.payload else None

held_more : {X : Type 0} (what : Payload → Option X) (number : ℕ) (fields : List WireField) (field : WireField)
    (o : Option X) → holds what number field ≡ o
    → payloads what number (fields ++ field ∷ []) ≡ payloads what number fields ++ cons_option o []
held_more {X} what number fields field o e = filter_map-append _ fields (field ∷ [])
    ∙ ap (λ (x : Option X). payloads what number fields ++ cons_option x []) e

pub held_same : {X : Type 0} (what : Payload → Option X) (number : ℕ) (fields : List WireField) (field : WireField)
    → holds what number field ≡ None → payloads what number (fields ++ field ∷ []) ≡ payloads what number fields
held_same what number fields field e = held_more what number fields field None e ∙ append-nil (payloads what number fields)

pub held_new : {X : Type 0} (what : Payload → Option X) (number : ℕ) (fields : List WireField) (field : WireField)
    (x : X) → holds what number field ≡ Some x
    → payloads what number (fields ++ field ∷ []) ≡ payloads what number fields ++ x ∷ []
held_new what number fields field x e = held_more what number fields field (Some x) e

last_push : {X : Type 0} (o : Option X) (xs : List X) (x : X) → last_or o (xs ++ x ∷ []) ≡ Some x
last_push o [] x = refl
last_push o (y ∷ xs) x = last_push (Some y) xs x

pub number_new : (number : ℕ) (fields : List WireField) (field : WireField) (value : ℕ)
    → holds number_in number field ≡ Some value → IsUint64 number (fields ++ field ∷ []) (Some value)
number_new number fields field value e =
    sym (ap (last_or None) (held_new number_in number fields field value e)
    ∙ last_push None (numbers number fields) value)

pub number_same : (number : ℕ) (fields : List WireField) (field : WireField) (last : Option ℕ)
    → holds number_in number field ≡ None → IsUint64 number fields last → IsUint64 number (fields ++ field ∷ []) last
number_same number fields field last e known =
    known ∙ sym (ap (last_or None) (held_same number_in number fields field e))

pub text_new : (number : ℕ) (fields : List WireField) (field : WireField) (last : Option (List ℕ)) (text : List ℕ)
    → holds body_in number field ≡ Some text → IsUtf8 text → IsText number fields last
    → IsText number (fields ++ field ∷ []) (Some text)
text_new number fields field last text e utf8 known =
    subst (λ (bs : List (List ℕ)). AllByRecursion IsUtf8 bs × (Some text ≡ last_or None bs))
    (sym (held_new body_in number fields field text e)) (
      all_append IsUtf8 (bodies number fields) (text ∷ []) known.0 (utf8, tt),
      sym (last_push None (bodies number fields) text),
    )

pub text_same : (number : ℕ) (fields : List WireField) (field : WireField) (last : Option (List ℕ))
    → holds body_in number field ≡ None → IsText number fields last → IsText number (fields ++ field ∷ []) last
text_same number fields field last e known =
    subst (λ (bs : List (List ℕ)). AllByRecursion IsUtf8 bs × (last ≡ last_or None bs))
    (sym (held_same body_in number fields field e)) known

-- ---- messages that repeat

pub messages_new : {M : Type 0} (Table : List WireField → M → Type 0) (number : ℕ) (fields : List WireField)
    (field : WireField) (messages : List M) (body : List ℕ) (message : M) → holds body_in number field ≡ Some body
    → Means Table body message
    → AreMessages Table number fields messages
    → AreMessages Table number (fields ++ field ∷ []) (messages ++ message ∷ [])
messages_new {M} Table number fields field messages body message e means known =
    subst (λ (bs : List (List ℕ)). AllZip (Means Table) bs (messages ++ message ∷ []))
    (sym (held_new body_in number fields field body e))
    (AllZip-push (Means Table) (bodies number fields) messages body message known means)

pub messages_same : {M : Type 0} (Table : List WireField → M → Type 0) (number : ℕ) (fields : List WireField)
    (field : WireField) (messages : List M) → holds body_in number field ≡ None
    → AreMessages Table number fields messages → AreMessages Table number (fields ++ field ∷ []) messages
messages_same Table number fields field messages e known =
    subst (λ (bs : List (List ℕ)). AllZip (Means Table) bs messages) (sym (held_same body_in number fields field e))
    known

-- ---- bodies that are put together

append_some : {X : Type 0} (xs : List X) (x : X) → xs ++ x ∷ [] ≢ []
append_some [] x e = absurd cc
append_some (y ∷ xs) x e = absurd cc

pub found_one : (bodies : List (List ℕ)) (body : List ℕ) → bodies ≡ [] → bodies ++ body ∷ [] ≡ body ∷ []
found_one bodies body e = ap (λ (bs : List (List ℕ)). bs ++ body ∷ []) e

concat-push : (bodies : List (List ℕ)) (body : List ℕ) → concat (bodies ++ body ∷ []) ≡ concat bodies ++ body
concat-push [] body = append-nil body
concat-push (first ∷ bodies) body = ap (λ (b : List ℕ). first ++ b) (concat-push bodies body)
    ∙ sym (append_assoc first (concat bodies) body)

pub found_more : (bodies : List (List ℕ)) (body old new : List ℕ) (fields : List WireField) → AreFields body fields
    → new ≡ old ++ body → IsFoundIn bodies (Joined old) → IsFoundIn (bodies ++ body ∷ []) (Joined new)
found_more bodies body old new fields read e h = (
  append_some bodies body,
  all_append _ bodies (body ∷ []) h.1 ((fields, read), tt),
  e ∙ ap (λ (b : List ℕ). b ++ body) h.2 ∙ sym (concat-push bodies body),
)

pub found_new : (number : ℕ) (fields : List WireField) (field : WireField) (old new : Found) (body : List ℕ)
    → holds body_in number field ≡ Some body
    → ((bodies : List (List ℕ)) → IsFoundIn bodies old → IsFoundIn (bodies ++ body ∷ []) new)
    → IsFound number fields old → IsFound number (fields ++ field ∷ []) new
found_new number fields field old new body e more known =
    subst (λ (bs : List (List ℕ)). IsFoundIn bs new) (sym (held_new body_in number fields field body e))
    (more (bodies number fields) known)

pub found_same : (number : ℕ) (fields : List WireField) (field : WireField) (old : Found)
    → holds body_in number field ≡ None → IsFound number fields old → IsFound number (fields ++ field ∷ []) old
found_same number fields field old e known =
    subst (λ (bs : List (List ℕ)). IsFoundIn bs old) (sym (held_same body_in number fields field e)) known

-- a field of another number

other : {X : Type 0} (what : Payload → Option X) (number : ℕ) (field : WireField) → field.number ≢ number
    → holds what number field ≡ None
other what number field differs =
    ap (λ (b : Bool). if b then what field.payload else None) (ne_eqb field.number number differs)

pub number_other : (number : ℕ) (fields : List WireField) (field : WireField) (last : Option ℕ)
    → field.number ≢ number → IsUint64 number fields last → IsUint64 number (fields ++ field ∷ []) last
number_other number fields field last differs =
    number_same number fields field last (other number_in number field differs)

pub text_other : (number : ℕ) (fields : List WireField) (field : WireField) (last : Option (List ℕ))
    → field.number ≢ number → IsText number fields last → IsText number (fields ++ field ∷ []) last
text_other number fields field last differs = text_same number fields field last (other body_in number field differs)

pub found_other : (number : ℕ) (fields : List WireField) (field : WireField) (old : Found) → field.number ≢ number
    → IsFound number fields old → IsFound number (fields ++ field ∷ []) old
found_other number fields field old differs = found_same number fields field old (other body_in number field differs)

pub messages_other : {M : Type 0} (Table : List WireField → M → Type 0) (number : ℕ) (fields : List WireField)
    (field : WireField) (messages : List M) → field.number ≢ number → AreMessages Table number fields messages
    → AreMessages Table number (fields ++ field ∷ []) messages
messages_other Table number fields field messages differs =
    messages_same Table number fields field messages (other body_in number field differs)

-- what they mean

abbrev IsRead : {M : Type 0} → (List WireField → M → Type 0) → List (List ℕ) → Option M → Type 0
IsRead Table bodies message = AreBodies bodies × IsJoined Table bodies message

pub means_none : {M : Type 0} (Table : List WireField → M → Type 0) (bodies : List (List ℕ)) → bodies ≡ []
    → IsRead Table bodies None
means_none Table bodies e = subst (λ (bs : List (List ℕ)). IsRead Table bs None) (sym e) (tt, tt)

pub means_one : {M : Type 0} (Table : List WireField → M → Type 0) (bodies : List (List ℕ)) (body : List ℕ)
    (message : M) → Means Table body message → bodies ≡ body ∷ [] → IsRead Table bodies (Some message)
means_one Table bodies body message means e =
    subst (λ (bs : List (List ℕ)). IsRead Table bs (Some message)) (sym e)
    (((means.fields, means.read), tt), one_body Table body message means)

joined_some : {M : Type 0} (Table : List WireField → M → Type 0) (bodies : List (List ℕ)) (message : M) → bodies ≢ []
    → Means Table (concat bodies) message → IsJoined Table bodies (Some message)
joined_some Table [] message some means = absurd (some refl)
joined_some Table (body ∷ bodies) message some means = means

pub means_joined : {M : Type 0} (Table : List WireField → M → Type 0) (bodies : List (List ℕ)) (bytes : List ℕ)
    (message : M) → Means Table bytes message → IsFoundIn bodies (Joined bytes) → IsRead Table bodies (Some message)
means_joined Table bodies bytes message means h =
    (h.1, joined_some Table bodies message h.0 (subst (λ (b : List ℕ). Means Table b message) h.2 means))

-- ---- entities

pub short_new : (fields : List WireField) (field : WireField) (entities : List Entity) (body : List ℕ)
    (entity : Entity) → holds body_in 2 field ≡ Some body → Means OfFeedEntity body entity → length body ≤ entity_limit
    → AreShortEntities fields entities → AreShortEntities (fields ++ field ∷ []) (entities ++ entity ∷ [])
short_new fields field entities body entity e means short known = (
  messages_new OfFeedEntity 2 fields field entities body entity e means known.0,
  subst (λ (bs : List (List ℕ)). AreShort bs) (sym (held_new body_in 2 fields field body e))
      (all_append (λ body. length body ≤ entity_limit) (bodies 2 fields) (body ∷ []) known.1 (short, tt)),
)

pub short_same : (fields : List WireField) (field : WireField) (entities : List Entity) → holds body_in 2 field ≡ None
    → AreShortEntities fields entities → AreShortEntities (fields ++ field ∷ []) entities
short_same fields field entities e known = (
  messages_same OfFeedEntity 2 fields field entities e known.0,
  subst (λ (bs : List (List ℕ)). AreShort bs) (sym (held_same body_in 2 fields field e)) known.1,
)
