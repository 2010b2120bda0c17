-- A site without rules whose floors are the least there are changes nothing but names: the tenant's book is planned as it would be alone,
-- and the witness is the same certificate with the tenant's names.
use Rattle.std.specs.Prelude.{Result, Ok}
use mathlib.Core.Path.{◌≡◌, refl, sym, ◌∙◌, ap, subst}
use mathlib.Core.Bool.{Bool, cond}
use mathlib.Core.List.{List, [], map}
use Prim.Native.Nat.{ℕ}
use native.Mathlib.Omega.{arith}
use borrow.Author.Tests.{le-leb}
use lib.IntN.{ℤ, pos, negsuc}
use Rattle.ints.specs.Within.{Within}
use Rattle.lp.specs.declared.Certificate.{Certificate}
use Rattle.lp.specs.declared.Floors.{Floors}
use Rattle.lp.specs.declared.Terms.{Terms}
use Rattle.lp.specs.declared.Outcome.{Outcome}
use Rattle.lp.specs.declared.Outcome.TheVariants as outcome
use Rattle.lp.specs.Range.{SmallFloors}
use Rattle.records.specs.Layout.{v2}
use Rattle.book.specs.Reading.{accepted, Entry, read_of, rules_of, records_of}
use Rattle.book.proofs.Bounds.{terms-small}
use Rattle.answers.specs.declared.Plan.{Plan}
use Rattle.witness.specs.Witness.{nobody, coded, rising}
use Rattle.plans.specs.Planning.{Witnessed, PlannedAs}
use Rattle.joining.specs.declared.JointRefusal.{JointRefusal}
use Rattle.joining.specs.Joining.{tenant_name, Joins}
use Rattle.joint_terms.specs.Terms.{greater, joined_terms}
use Rattle.joining.proofs.Demands.{planned}

-- the least floors that a header can hold
abbrev pub least_floors : Floors
least_floors = record { lx = negsuc 32767; ly = negsuc 32767 }

least-greater : (z : ℤ) → Within 32768 z → greater (negsuc 32767) z ≡ z
least-greater (pos n) h = refl
least-greater (negsuc n) h =
    ap (λ (b : Bool). cond b (negsuc n) (negsuc 32767)) (le-leb n 32767 (omega (arith, h.small)))

terms-same : (t t' : Terms) → t.floors ≡ least_floors → SmallFloors t'.floors → joined_terms t t' ≡ t'
terms-same t t' e h =
    λ i. record {
      objective = t'.objective;
      floors =
          record {
            lx = (ap (λ (f : Floors). greater f.lx t'.floors.lx) e ∙ least-greater t'.floors.lx h.lx_small) i;
            ly = (ap (λ (f : Floors). greater f.ly t'.floors.ly) e ∙ least-greater t'.floors.ly h.ly_small) i;
          };
    }

-- the tenant's plan alone, and how the joined plan differs from it: in the names of one certificate's entries
pub record NamesAlone (t : Terms) (fs : List Entry) (p : Plan) : Type 0 where
  pub alone : Plan
  pub alone-planned : PlannedAs t (records_of fs) (rules_of fs) alone
  pub outcome-same : p.outcome ≡ alone.outcome
  pub moves-same : p.moves ≡ alone.moves
  pub open_same : p.opened ≡ alone.opened
  pub place_same : p.place ≡ alone.place
  pub certificate : Certificate
  pub joined-witness : p.witness ≡ rising (coded (map tenant_name (records_of fs)) certificate)
  pub alone-witness : alone.witness ≡ rising (coded (records_of fs) certificate)

module _ (t : Terms) (fs : List Entry) (p : Plan) (h : PlannedAs t (map tenant_name (records_of fs)) (rules_of fs) p) where
  abbrev with_witness : Certificate → Plan
  with_witness c =
      record {
        outcome = p.outcome;
        moves = p.moves;
        opened = p.opened;
        place = p.place;
        witness = rising (coded (records_of fs) c);
      }

  by-certificate : (c : Certificate) →
      p.witness ≡ rising (coded (map tenant_name (records_of fs)) c) →
      Witnessed t (records_of fs) (rules_of fs) p.place (rising (coded (records_of fs) c)) p.outcome →
      NamesAlone t fs p
  by-certificate c e w =
      record {
        alone = with_witness c;
        alone-planned =
            record {
              outcome_defined = h.outcome_defined;
              moves_defined = h.moves_defined;
              open_defined = h.open_defined;
              place_defined = h.place_defined;
              witnessed = w;
            };
        outcome-same = refl;
        moves-same = refl;
        open_same = refl;
        place_same = refl;
        certificate = c;
        joined-witness = e;
        alone-witness = refl;
      }

  names-alone : NamesAlone t fs p
  names-alone = go p.outcome refl h.witnessed
    where
      go : (o : Outcome) →
          p.outcome ≡ o →
          Witnessed t (map tenant_name (records_of fs)) (rules_of fs) p.place p.witness o →
          NamesAlone t fs p
      go outcome.Infeasible e w =
          by-certificate w.certificate w.same_entries
          (subst (Witnessed t (records_of fs) (rules_of fs) p.place (rising (coded (records_of fs) w.certificate))) (sym e)
          (record { certificate = w.certificate; valid = w.valid; lean = w.lean; same_entries = refl }))
      go (outcome.Unbounded v d) e w =
          by-certificate nobody w
          (subst (Witnessed t (records_of fs) (rules_of fs) p.place (rising (coded (records_of fs) nobody))) (sym e) refl)
      go (outcome.Optimal v) e w =
          by-certificate nobody w
          (subst (Witnessed t (records_of fs) (rules_of fs) p.place (rising (coded (records_of fs) nobody))) (sym e) refl)

-- joined with such a site, the tenant's book gets its own plan, but for the names in its witness
pub neutral_site : (s u : List ℕ) (a : Result Plan JointRefusal) →
    Joins s u a →
    (t t' : Terms) (fs : List Entry) →
    read_of v2 s ≡ accepted t [] →
    t.floors ≡ least_floors →
    read_of v2 u ≡ accepted t' fs →
    (p : Plan) →
    a ≡ Ok p →
    NamesAlone t' fs p
neutral_site s u a promise t t' fs e low e' p q =
    names-alone t' fs p
    (subst (λ (x : Terms). PlannedAs x (map tenant_name (records_of fs)) (rules_of fs) p)
    (terms-same t t' low (terms-small v2 u e').floors-small)
    (planned s u a promise t t' [] fs e e' p q))
