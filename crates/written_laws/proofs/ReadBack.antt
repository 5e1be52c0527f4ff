-- the lines of an instance are read back
use Rattle.std.proofs.Common.{◌≡◌, ◌<◌, ℕ, Result, Ok, sym, refl, subst, arith}
use Rattle.std.proofs.lemmas.List.Elements.{recursion_from_All}
use Rattle.crew_terms.specs.Words.{Words, words_of, line_of, IsLine}
use Rattle.crew_terms.specs.Rules.{IsTeam, IsTask}
use Rattle.crew_terms.specs.declared.Team.{Team}
use Rattle.crew_terms.specs.declared.Task.{Task}
use Rattle.crew_terms.specs.declared.TheConstants.{SKILLS}
use Rattle.dossier_terms.specs.Dossier.{skills_of}
use Rattle.dossier_terms.specs.Ranges.{IsTeamLine, IsTaskLine}
use Rattle.dossier_laws.specs.Listed.{IsSkillList}
use Rattle.cert_format.specs.declared.kinds.Expect.{Expect}
use Rattle.cert_format.specs.declared.kinds.LineKind.{LineKind}
use Rattle.cert_format.specs.Lines.{ReadsLine, IsLineOf}
use Rattle.line_in.specs.declared.faults.LineFault.{LineFault}
use Rattle.cert_format.specs.Counts.{HasCounts}
use Rattle.written_laws.specs.ReadBack.{IsReadAs}

-- a line has one answer
abbrev pub HasOneAnswer : Type 0
HasOneAnswer = (expect : Expect) (words : Words) (a b : Result LineKind LineFault) → HasCounts expect → ReadsLine expect words a → ReadsLine expect words b → a ≡ b

-- a line that is cut into its words is read as what these say
pub read_as : HasOneAnswer → (expect : Expect) (words : Words) (kind : LineKind) → HasCounts expect → IsLine (line_of words) → words_of (line_of words) ≡ words → IsLineOf expect words kind
    → IsReadAs expect words kind
read_as law expect words kind few line cut is =
    let read : ReadsLine expect (words_of (line_of words)) (Ok kind) = subst (λ (ws : Words). ReadsLine expect ws (Ok kind)) (sym cut) is in
    record { line = line; read = read; only = λ answer other. law expect (words_of (line_of words)) answer (Ok kind) few other read }

pub team_spelled : (places : ℕ) (t : Team) → IsTeam places t → IsSkillList (skills_of t.skills) → IsTeamLine places (record t { skills = 0 }, skills_of t.skills)
team_spelled places t h listed = record {
  name = h.name;
  home = h.home;
  from = omega (arith, h.shift.order, h.shift.day);
  until = h.shift.day;
  none = refl;
  skills = recursion_from_All (λ s. s < SKILLS) (skills_of t.skills) listed.known;
}

pub task_spelled : (places : ℕ) (t : Task) → IsTask places t → IsSkillList (skills_of t.skills) → IsTaskLine places (record t { skills = 0 }, skills_of t.skills)
task_spelled places t h listed = record {
  name = h.name;
  place = h.place;
  earliest = omega (arith, h.window.order, h.window.day);
  latest = h.window.day;
  some_minutes = h.window.some_minutes;
  minutes = h.window.minutes;
  teams = h.teams;
  none = refl;
  skills = recursion_from_All (λ s. s < SKILLS) (skills_of t.skills) listed.known;
}
