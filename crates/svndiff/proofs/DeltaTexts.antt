-- A text in windows of new data alone is a delta of any base.
use Rattle.std.proofs.Common.{◌≡◌, inl, ℕ, zero, ◌+◌, List, [], ◌∷◌, ◌++◌, length, take, drop, refl, sym, subst, ap, length-append, arith}
use Rattle.std.proofs.lemmas.List.{take-append-drop, length-take, length-drop}
use Rattle.svndiff.specs.Grammar.{AreNew, None, More, IsWindow, AreWindows, Empty, Then, IsText}
use Rattle.svndiff.specs.DeltaGrammar.{Makes, Nothing, FromSource, FromTarget, FromNew, IsDeltaWindow, AreDeltas, IsDelta, view_of}
use Rattle.svndiff.specs.DeltaLaws.{NoCopy, NoCopies, DeltasAreTexts}
use Rattle.svndiff.specs.Groups.{Spells}
use Rattle.svndiff.specs.DeltaGrammar as delta
use Rattle.svndiff.specs.declared.instructions.Kind.TheVariants as kind

-- the last so many bytes of a list
parts_of : (m n : ℕ) (new : List ℕ) → length new ≡ m + n → (length (take m new) ≡ m) × (length (drop m new) ≡ n)
parts_of m n new e = (omega (arith, length-take m new, e), omega (arith, length-drop m new, e))

-- instructions for new data make it
news_make : (view bytes new : List ℕ) (n : ℕ) → AreNew bytes n → length new ≡ n → Makes view bytes new new
news_make view [] [] zero None e = Nothing
news_make view [] (b ∷ new) zero None e = absurd (omega (arith, e))
news_make view both_bytes new both_sums (More bytes first m n before one) e =
    let p = parts_of m n new e in
    subst (λ x. Makes view (bytes ++ first) x x) (take-append-drop m new) (FromNew bytes (take m new) (take m new) first (drop m new) (news_make view bytes (take m new) m before p.0) (subst (λ k. delta.Sized kind.New first k) (sym p.1) one))

window_delta : (base bytes new : List ℕ) (w : IsWindow bytes new) → IsDeltaWindow base w.anywhere 0 bytes new
window_delta base bytes new w = record {
  offset = w.offset;
  source = w.source;
  target = w.target;
  size = w.size;
  news = w.news;
  instructions = w.instructions;
  new = new;
  is_offset = w.is_offset;
  is_source = w.no_source;
  is_target = w.is_target;
  is_size = w.is_size;
  is_news = w.is_news;
  within = inl refl;
  make = news_make (view_of base w.anywhere 0) w.instructions new (length new) w.make refl;
  short = w.short;
  short_view = omega arith;
  short_new = w.short;
  joined = w.joined;
}

windows_delta : (base bytes text : List ℕ) → AreWindows bytes text → AreDeltas base 0 0 bytes text
windows_delta base [] [] Empty = delta.Empty
windows_delta base both_bytes both_texts (Then bytes text first new before one) =
    delta.Then 0 0 one.anywhere 0 bytes text first new (windows_delta base bytes text before) (window_delta base first new one) (inl refl)

pub texts_are_deltas : (bytes base text : List ℕ) → IsText bytes text → IsDelta bytes base text
texts_are_deltas bytes base text t = record { windows = t.windows; floor = 0; ceiling = 0; are = windows_delta base t.windows text t.are; fits = t.fits; joined = t.joined }

-- and back, where nothing is copied
news_alone : (view bytes new made : List ℕ) (m : Makes view bytes new made) → NoCopy view bytes new made m → (made ≡ new) × AreNew bytes (length new)
news_alone view [] [] [] Nothing h = (refl, None)
news_alone view both_bytes both_new both_made (FromSource bytes new made first at n before copies inside) h = absurd h
news_alone view both_bytes both_new both_made (FromTarget bytes new made first piece at before copies stands same) h = absurd h
news_alone view both_bytes both_new both_made (FromNew bytes new made first piece before spelt) h =
    let p = news_alone view bytes new made before h in
    let l : length new + length piece ≡ length (new ++ piece) = omega (arith, length-append new piece) in
    (ap (λ t. t ++ piece) p.0, subst (AreNew (bytes ++ first)) l (More bytes first (length new) (length piece) p.1 spelt))

window_text : (base : List ℕ) (at n : ℕ) (bytes made : List ℕ) (w : IsDeltaWindow base at n bytes made) → n ≡ 0 → NoCopy (view_of base at n) w.instructions w.new made w.make → IsWindow bytes made
window_text base at n bytes made w z h =
    let p = news_alone (view_of base at n) w.instructions w.new made w.make h in
    record {
      offset = w.offset;
      source = w.source;
      target = w.target;
      size = w.size;
      news = w.news;
      instructions = w.instructions;
      anywhere = at;
      is_offset = w.is_offset;
      no_source = subst (Spells w.source) z w.is_source;
      is_target = w.is_target;
      is_size = w.is_size;
      is_news = subst (λ t. Spells w.news (length t)) (sym p.0) w.is_news;
      make = subst (λ t. AreNew w.instructions (length t)) (sym p.0) p.1;
      short = w.short;
      joined = subst (λ t. bytes ≡ w.offset ++ (w.source ++ (w.target ++ (w.size ++ (w.news ++ (w.instructions ++ t)))))) (sym p.0) w.joined;
    }

windows_text : (base : List ℕ) (floor ceiling : ℕ) (bytes text : List ℕ) (d : AreDeltas base floor ceiling bytes text) → NoCopies base floor ceiling bytes text d → AreWindows bytes text
windows_text base zero zero [] [] delta.Empty h = Empty
windows_text base both_floors both_ceilings both_bytes both_texts (delta.Then floor ceiling at n bytes text first made before one slides) (h, z, k) =
    Then bytes text first made (windows_text base floor ceiling bytes text before h) (window_text base at n first made one z k)

pub deltas_are_texts : DeltasAreTexts
deltas_are_texts bytes base text d h = record { windows = d.windows; are = windows_text base d.floor d.ceiling d.windows text d.are h; fits = d.fits; joined = d.joined }
