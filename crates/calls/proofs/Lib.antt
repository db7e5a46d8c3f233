mod Answered
mod Again
