-- A reader that follows the bytes that it was fed, and what is then played of the whole file.
use Rattle.std.proofs.Common.{◌≡◌, ℕ, ◌+◌, ◌-◌, ◌<◌, ◌≤◌, List, [], ◌++◌, length, take, None, Some, Bool, true, false, cond, refl, sym, ap, ◌∙◌, append_assoc, append-nil, length-append, arith}
use Rattle.std.specs.Prelude.{nat_lt}
use Rattle.std.proofs.lemmas.Bool.{lt-ltb, le-ltb}
use Rattle.std.proofs.Math.Seq.{take-append-add, take-append_seam}
use Rattle.event_file.specs.Known.{Known}
use Rattle.event_file.specs.Script.{Entries, after, entries_of}
use Rattle.event_file.specs.Reader.{Reader, entries_with}
use Rattle.event_file.specs.Heard.{heard, heard_with}
use Rattle.event_file.specs.declared.entry.Entry.{Entry}
use Rattle.event_file.specs.declared.fault.LineError.{LineError}
use Rattle.event_file.proofs.HeardLines.{short_heard}
use Rattle.trapeze_cli.specs.Played.{AtEnd, AtBad, PastLimit, played_of, up_to}
use Rattle.trapeze_cli.specs.Playing.{HasPassed, FailsAt, IsDry, HasFollowed}
use Rattle.trapeze_cli.proofs.HeardPrefixes.{Begins}
use Rattle.trapeze_cli.proofs.PassedLines.{after_both, nothing_after}

fresh : Known → Reader
fresh known = record { known = known; kept = []; lines = 0; fed = 0; finished = false; bad = None }

-- a reader that was fed nothing
pub follows_new : (known : Known) (r : Reader) → r ≡ record { known = known; kept = []; lines = 0; fed = 0; finished = false; bad = None } → HasFollowed known [] [] r
follows_new known r is = rw is (record { knows = refl; feeding = refl; fed = refl; all = λ more. refl; counted = λ more. refl })

pub dry_new : (known : Known) (r : Reader) → r ≡ record { known = known; kept = []; lines = 0; fed = 0; finished = false; bad = None } → IsDry r
dry_new known r is = rw is (record { good = refl; short = record { part = refl; short = refl } })

pub follows_fed : (known : Known) (given : List ℕ) (entries : List Entry) (r new : Reader) (bytes : List ℕ) → HasFollowed known given entries r
    → new ≡ record r { kept = r.kept ++ bytes; fed = r.fed + length bytes }
    → ((more : List ℕ) → entries_with new more ≡ entries_with r (bytes ++ more)) → ((more : List ℕ) → heard_with new more ≡ heard_with r (bytes ++ more))
    → HasFollowed known (given ++ bytes) entries new
follows_fed known given entries r new bytes f is k h = record {
  knows = ap (λ (x : Reader). x.known) is ∙ f.knows;
  feeding = ap (λ (x : Reader). x.finished) is ∙ f.feeding;
  fed = ap (λ (x : Reader). x.fed) is ∙ ap (λ n. n + length bytes) f.fed ∙ sym (length-append given bytes);
  all = λ more. ap (entries_of known) (append_assoc given bytes more) ∙ f.all (bytes ++ more) ∙ ap (after entries) (sym (k more));
  counted = λ more. ap (heard known) (append_assoc given bytes more) ∙ f.counted (bytes ++ more) ∙ ap (after entries) (sym (h more));
}

pub follows_passed : (known : Known) (given : List ℕ) (entries passed : List Entry) (r new : Reader) → HasFollowed known given entries r → HasPassed r new passed
    → HasFollowed known given (entries ++ passed) new
follows_passed known given entries passed r new f p = record {
  knows = p.known ∙ f.knows;
  feeding = p.finished ∙ f.feeding;
  fed = p.fed ∙ f.fed;
  all = λ more. f.all more ∙ ap (after entries) (p.all more) ∙ after_both entries passed (entries_with new more);
  counted = λ more. f.counted more ∙ ap (after entries) (p.counted more) ∙ after_both entries passed (heard_with new more);
}

-- what is heard of the bytes given, where nothing but a part of a line is kept
pub heard_dry : (known : Known) (given : List ℕ) (entries : List Entry) (r : Reader) → HasFollowed known given entries r → IsDry r
    → heard known given ≡ record { entries = entries; bad = None }
heard_dry known given entries r f d =
    ap (heard known) (sym (append-nil given)) ∙ f.counted [] ∙ ap (after entries) (short_heard r d.short) ∙ nothing_after entries None

take_past : (limit : ℕ) (given rest : List ℕ) → length given ≤ limit → take limit (given ++ rest) ≡ given ++ take (limit - length given) rest
take_past limit given rest l =
    let e : limit ≡ length given + (limit - length given) = omega arith in
    ap (λ n. take n (given ++ rest)) e ∙ take-append-add given rest (limit - length given)

after_begins : (entries : List Entry) (read others : Entries) → read ≡ after entries others → Begins read.entries entries
after_begins entries read others is = record { others = others.entries; same = ap (λ (e : Entries). e.entries) is }

begins_cond : (b : Bool) (entries : List Entry) (past whole : Entries) → Begins past.entries entries → Begins whole.entries entries
    → Begins (cond b (up_to PastLimit past) (up_to AtEnd whole)).entries entries
begins_cond true entries past whole p w = p
begins_cond false entries past whole p w = w

-- what was passed is played first
pub played_begins : (limit : ℕ) (known : Known) (given rest : List ℕ) (entries : List Entry) (r : Reader) → HasFollowed known given entries r → length given ≤ limit
    → Begins (played_of limit known (given ++ rest)).entries entries
played_begins limit known given rest entries r f l =
    begins_cond (nat_lt limit (length (given ++ rest))) entries (heard known (take limit (given ++ rest))) (entries_of known (given ++ rest))
    (after_begins entries _ _ (ap (heard known) (take_past limit given rest l) ∙ f.counted (take (limit - length given) rest)))
    (after_begins entries _ _ (f.all rest))

same_cond : (b : Bool) (past whole : Entries) (entries : List Entry) (bad : LineError)
    → past ≡ record { entries = entries; bad = Some bad } → whole ≡ record { entries = entries; bad = Some bad }
    → cond b (up_to PastLimit past) (up_to AtEnd whole) ≡ record { entries = entries; end = AtBad bad }
same_cond true past whole entries bad p w = ap (up_to PastLimit) p
same_cond false past whole entries bad p w = ap (up_to AtEnd) w

-- a bad line was met
pub played_bad : (limit : ℕ) (known : Known) (given rest : List ℕ) (entries passed : List Entry) (r : Reader) (bad : LineError) → HasFollowed known given entries r → FailsAt r passed bad
    → length given ≤ limit → played_of limit known (given ++ rest) ≡ record { entries = entries ++ passed; end = AtBad bad }
played_bad limit known given rest entries passed r bad f fails l =
    same_cond (nat_lt limit (length (given ++ rest))) (heard known (take limit (given ++ rest))) (entries_of known (given ++ rest)) (entries ++ passed) bad
    (ap (heard known) (take_past limit given rest l) ∙ f.counted (take (limit - length given) rest) ∙ ap (after entries) (fails.counted (take (limit - length given) rest)))
    (f.all rest ∙ ap (after entries) (fails.all rest))

-- the file was read to its end
pub played_whole : (limit : ℕ) (known : Known) (given : List ℕ) (entries : List Entry) (r : Reader) → HasFollowed known given entries r → length given ≤ limit
    → played_of limit known given ≡ up_to AtEnd (after entries (entries_with r []))
played_whole limit known given entries r f l =
    ap (λ b. cond b (up_to PastLimit (heard known (take limit given))) (up_to AtEnd (entries_of known given))) (le-ltb limit (length given) l)
    ∙ ap (up_to AtEnd) (ap (entries_of known) (sym (append-nil given)) ∙ f.all [])

-- a byte past the limit was given
pub played_past : (limit : ℕ) (known : Known) (given over rest : List ℕ) (entries : List Entry) → heard known given ≡ record { entries = entries; bad = None }
    → length given ≡ limit → 0 < length over → played_of limit known ((given ++ over) ++ rest) ≡ record { entries = entries; end = PastLimit }
played_past limit known given over rest entries h l o =
    let long : limit < length ((given ++ over) ++ rest) = omega (arith, length-append (given ++ over) rest, length-append given over) in
    let first : take limit ((given ++ over) ++ rest) ≡ given = ap (λ b. take limit b) (append_assoc given over rest) ∙ ap (λ n. take n (given ++ (over ++ rest))) (sym l) ∙ take-append_seam given (over ++ rest) in
    ap (λ b. cond b (up_to PastLimit (heard known (take limit ((given ++ over) ++ rest)))) (up_to AtEnd (entries_of known ((given ++ over) ++ rest)))) (lt-ltb limit (length ((given ++ over) ++ rest)) long)
    ∙ ap (up_to PastLimit) (ap (heard known) first ∙ h)
